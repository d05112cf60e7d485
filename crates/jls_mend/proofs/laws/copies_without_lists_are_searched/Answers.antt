use Rattle.std.proofs.Common.{◌≡◌, List, ℕ, [], subst}
use Rattle.std.proofs.lemmas.List.{append-nil}
use Rattle.jls_splice_run.specs.Making.{IsMade, lines}
use Rattle.jls_mend.specs.Asking.{asked_for, inputs_of}
use Rattle.jls_mend.proofs.laws.copies_without_lists_are_searched.Goals as goal

pub returns : goal.returns
returns c = λ o copies v m. (
  record {
    read = m.read;
    read_of = m.read_of;
    made = m.made;
    is_made = subst (λ (searched : List (List ℕ)). IsMade (asked_for o copies []) searched m.made) m.are_searched m.is_made;
    outputs_are = m.outputs_are;
    lines_are = subst (λ (searched : List (List ℕ)). v.lines.items ≡ lines (asked_for o copies []) searched m.made) m.are_searched m.lines_are;
    promised = m.promised;
    whole = m.whole;
  },
  append-nil (inputs_of copies),
)
