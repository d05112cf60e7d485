-- One cell is written, and all others stay.
use Rattle.std.proofs.Common.{◌≡◌, ◌≢◌, ℕ, ◌<◌, List, length, get_or, replicate, set, map, ap, refl, zero, suc, ◌∷◌, sym, subst, ◌∙◌}
use Rattle.std.proofs.Common.{arith, inl, inr}
use Rattle.std.specs.List.{All}
use Rattle.std.proofs.lemmas.List.{get_or-map, map-set, get_or-set_same, get_or-set_other, get_or-replicate, length-set, length-replicate}
use Rattle.std.proofs.lemmas.Bool.{cases_eq, cases_lt}
use Rattle.jls_context.specs.declared.regular.Cell.{Cell}
use Rattle.jls_context.specs.declared.interruption.RunCell.{RunCell}
use Rattle.jls_context.specs.declared.regular.CellCode.{CellCode}
use Rattle.jls_context.specs.Bounds.{IsCell, AreVariables, AreCells}
use Rattle.jls_context.specs.Variables.{Variables, cell_at}
use Rattle.jls_context.specs.Regular.{initial_cell, code_of}
use Rattle.jls_values.specs.Params.{CodingParameters}
use Rattle.std.proofs.Math.ListN.{get_or-eq_default}

-- a list of one value reads as that value everywhere, where the default is the same
replicated : (n i : ℕ) (x d : Cell) → x ≡ d → get_or (replicate n x) i d ≡ d
replicated n i x d is =
    elim (cases_lt i n) [
      | inl within ↦ get_or-replicate n i x d within ∙ is
      | inr beyond ↦
          (let size = length-replicate n x in get_or-eq_default (replicate n x) d (omega arith))
    ]

-- at the start all cells are the same
pub cell_at-start : (p : CodingParameters) (x : Cell) (run_other run_same : RunCell) (i : ℕ) → x ≡ initial_cell p
    → (let v : Variables = record { parameters = p; regular = replicate 365 x; run_other = run_other; run_same = run_same } in cell_at v i)
    ≡ initial_cell p
unfolding cell_at
cell_at-start p x run_other run_same i is = replicated 365 i x (initial_cell p) is

-- the variables with another cell at this place
abbrev pub written : Variables → ℕ → Cell → Variables
written v i x = record v { regular = set v.regular i x }

pub cell_at-written_same : (v : Variables) (i : ℕ) (x : Cell) → i < length v.regular → cell_at (written v i x) i ≡ x
unfolding cell_at
cell_at-written_same v i x within = get_or-set_same v.regular i x _ within

pub cell_at-written_other : (v : Variables) (i : ℕ) (x : Cell) (other : ℕ) → other ≢ i → cell_at (written v i x) other ≡ cell_at v other
unfolding cell_at
cell_at-written_other v i x other apart = get_or-set_other v.regular i other x _ apart

-- cells in their ranges stay in them when one is set to a cell in its range
all_set : (reset : ℕ) (cells : List Cell) (i : ℕ) (x : Cell) → All (IsCell reset) cells → i < length cells → IsCell reset x
    → All (IsCell reset) (set cells i x)
all_set reset cells i x all h ok k d l =
    let le = length-set cells i x in
    elim (cases_eq k i) [
      | inl e ↦ (let q : get_or (set cells i x) k d ≡ x = rw e (get_or-set_same cells i x d h) in
          subst (λ z. IsCell reset z) (sym q) ok)
      | inr ne ↦
          subst (λ z. IsCell reset z) (sym (get_or-set_other cells i k x d ne)) (all k d (omega arith))
    ]

-- variables stay in their ranges when a cell of regular mode is set to one in its range
pub written_right : (v : Variables) (i : ℕ) (x : Cell) → i < 365 → AreVariables v → IsCell v.parameters.reset x
    → AreVariables (written v i x)
written_right v i x within are ok = record {
  ranges = are.ranges;
  maxval_below = are.maxval_below;
  reset_below = are.reset_below;
  length_is = length-set v.regular i x ∙ are.length_is;
  regular = (let length_is = are.length_is in all_set v.parameters.reset v.regular i x are.regular (omega arith) ok);
  run_other = are.run_other;
  run_same = are.run_same;
}

-- the codes of cells that are all the same
pub codes_alike : (n : ℕ) (x : Cell) (code : CellCode) → code ≡ code_of x → replicate n code ≡ map code_of (replicate n x)
codes_alike zero x code is = refl
codes_alike (suc n) x code is = ap2 is (codes_alike n x code is)
  where
    ap2 : {c d : CellCode} {cs ds : List CellCode} → c ≡ d → cs ≡ ds → (c ∷ cs) ≡ (d ∷ ds)
    ap2 a b = cc

-- the code that is kept for a cell
pub code_there : (v : Variables) (codes : List CellCode) (i : ℕ) (d : CellCode) → AreCells v codes → i < 365
    → get_or codes i d ≡ code_of (cell_at v i)
unfolding cell_at
code_there v codes i d are within =
    let length_is = are.variables.length_is in
    ap (λ (cs : List CellCode). get_or cs i d) are.codes_are ∙ get_or-map code_of v.regular i (initial_cell v.parameters) d (omega arith)

-- a cell is written, and its code with it
pub codes_right : (v : Variables) (codes : List CellCode) (i : ℕ) (x : Cell) (code : CellCode) → i < 365 → AreCells v codes
    → IsCell v.parameters.reset x → code ≡ code_of x → AreCells (written v i x) (set codes i code)
codes_right v codes i x code within are ok is = record {
  variables = written_right v i x within are.variables ok;
  codes_are = ap (λ (cs : List CellCode). set cs i code) are.codes_are ∙ ap (λ (c : CellCode). set (map code_of v.regular) i c) is
      ∙ sym (map-set code_of v.regular i x);
}

-- each cell is in its ranges
pub cell_right : (v : Variables) (i : ℕ) → AreVariables v → i < 365 → IsCell v.parameters.reset (cell_at v i)
unfolding cell_at
cell_right v i are within = let length_is = are.length_is in are.regular i (initial_cell v.parameters) (omega arith)
