-- The worse of what came of giving two locks back.
use Rattle.gix_ref_lock.specs.declared.lock.GivenBack.{GivenBack}
use Rattle.gix_ref_lock.specs.declared.lock.GivenBack.TheVariants.{Done, Memory, Failed}

abbrev pub worse : GivenBack → GivenBack → GivenBack
worse Failed other = Failed
worse Memory Failed = Failed
worse Memory Memory = Memory
worse Memory Done = Memory
worse Done other = other
