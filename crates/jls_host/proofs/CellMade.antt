-- The step by which both walks of `src/calls.rt` make a cell, for any calls.
use Rattle.std.proofs.Common.{List, [], ◌∷◌, refl}
use seplogic.Ra.Ura.{Ura}
use mir.Val.{Val, vstruct, vnil}
use types.Logic.{Logic}
use types.Kit.{Goal, Step, step, Item, ‵, ◌$◌, fjoin, fpack, feq_i}
use denote.RattleType.{Valss}
use denote.Steps.{nothing}
use denote.Struct.Struct.{within}
use Rattle.jls_host.specs.Disk.{Call}
use Rattle.jls_host.specs.contracts.calls.CallsCell.{the_row as Cell}

-- a struct with no field, as the machine has it
abbrev pub fieldless : Val
fieldless = vstruct vnil

-- a cell owns nothing, so there is one for any calls
pub cell_made : {M : Type 1} {𝓤 : Ura M} {𝓛 : Logic 𝓤} {K : Type 0} {Γ : List (Item 𝓤)} {G : Goal 𝓤 𝓛.H} (calls : List Call) → K
    → Step K 𝓛 (‵ (Cell.own_val (record { calls = calls }) (fieldless ∷ [])) ∷ Γ) G Γ G
cell_made h t = step (λ s.
    nothing t $ nothing t $ feq_i t (List Val) (fieldless ∷ []) (fieldless ∷ []) refl $ fjoin t $
    fpack t (Valss []) (within (record { name = []; args = []; types = []; fields = [] }) tt (fieldless ∷ [])) tt $ fjoin t $ s)
