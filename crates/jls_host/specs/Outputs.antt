-- What an output that is made beside its name leaves at that name, at every moment.
use Rattle.std.specs.Prelude.{ℕ, List, Option, Some, None, cond}
use Rattle.jls_host.specs.declared.output.Output.{Output}
use Rattle.jls_host.specs.declared.output.FileBeside.{FileBeside}
use Rattle.jls_host.specs.declared.output.Why.{Why}
use Rattle.jls_host.specs.declared.output.Why.TheVariants.{Failed, Jpeg, Unreadable, Taken, NotKept}

-- the output's name and its own, where it is a file beside its name that takes the name at the end. None where it is written at its name,
-- or copied to it at the end
abbrev pub names_of : Option FileBeside → Option (List ℕ × List ℕ)
names_of None = None
names_of (Some beside) = cond beside.is_copied None (Some (beside.name.bytes, beside.own.bytes))

-- the same of an output
abbrev pub takes_name : {F : Type 0} → Output F → Option (List ℕ × List ℕ)
takes_name output = names_of output.beside

-- the number of the file that is written
abbrev pub number_in : {F : Type 0} → Output F → ℕ
number_in output = output.held.number

-- an output is not made as what stands at its name is protected: a JPEG file, or one whose first bytes can't be read
abbrev pub IsProtection : Why → Type 0
IsProtection Failed = ⊥
IsProtection Jpeg = Unit {0}
IsProtection Unreadable = Unit {0}
IsProtection Taken = ⊥
IsProtection NotKept = ⊥

-- it is not made for another reason
abbrev pub IsNoProtection : Why → Type 0
IsNoProtection why = IsProtection why → ⊥
