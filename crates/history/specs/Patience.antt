-- A reader that an interruption doesn't stop.
use Rattle.history.specs.declared.in_memory.patient.Patient.{Patient}

-- the reader that it reads from
abbrev pub inner_of : {T : Type 0} → Patient T → T
inner_of reader = reader.inner
