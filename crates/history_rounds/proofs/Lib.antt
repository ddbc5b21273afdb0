mod Chained
mod Ends
mod RoundsMade
