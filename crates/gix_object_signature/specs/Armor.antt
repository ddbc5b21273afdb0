-- The armor that begins a signature, by its format (git-config, `gpg.format`).
use Rattle.std.specs.Prelude.{ℕ, ◌⊎◌, List, codes}
use Rattle.gix_object_lines.specs.Bytes.{IsBeginningOf}
use Rattle.gix_object_signature.specs.declared.format.Format.{Format}
use Rattle.gix_object_signature.specs.declared.format.Format.TheVariants.{OpenPgp, X509, Ssh}

-- an armor of this format begins the text
abbrev pub BeginsArmor : List ℕ → Format → Type 0
BeginsArmor text OpenPgp =
    IsBeginningOf (codes "-----BEGIN PGP SIGNATURE-----") text
    ⊎ IsBeginningOf (codes "-----BEGIN PGP MESSAGE-----") text
BeginsArmor text X509 = IsBeginningOf (codes "-----BEGIN SIGNED MESSAGE-----") text
BeginsArmor text Ssh = IsBeginningOf (codes "-----BEGIN SSH SIGNATURE-----") text

abbrev pub BeginsNoArmor : List ℕ → Type 0
BeginsNoArmor text = (format : Format) → ¬ BeginsArmor text format
