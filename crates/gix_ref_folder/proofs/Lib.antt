mod Made
mod Reported
mod Sorting
mod Written
