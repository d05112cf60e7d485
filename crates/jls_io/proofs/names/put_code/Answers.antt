use Rattle.std.proofs.Common.{◌≡◌, ◌∙◌, ℕ, List, [], ◌∷◌, ◌++◌, Option, Some, None, append_assoc, ap, rules, sym, subst, take, drop}
use Rattle.std.proofs.lemmas.List.{append-nil}
use Rattle.std.specs.List.{flat_map}
use Rattle.std.specs.Char.{encode_utf8}
use Rattle.std.specs.Char.Iter.{escape_rest, escape_steps}
use Rattle.jls_io.proofs.Handed.{none_yet, one_more, handed_as}
use Rattle.jls_io.proofs.names.put_code.Goals as goal

one_less : (yielded whole : List ℕ) (s t : _) (r : Option ℕ) (x : ℕ) → yielded ++ escape_rest s ≡ whole → r ≡ Some x → escape_steps s r t
    → (yielded ++ x ∷ []) ++ escape_rest t ≡ whole
one_less yielded whole s t r x h is steps =
    let k = subst (λ (o : Option ℕ). escape_steps s o t) is steps in
    append_assoc yielded (x ∷ []) (escape_rest t) ∙ (ap (λ (l : List ℕ). yielded ++ l) (sym k.1.0) ∙ h)

all_yielded : (yielded whole : List ℕ) (s t : _) (r : Option ℕ) → yielded ++ escape_rest s ≡ whole → r ≡ None → escape_steps s r t
    → yielded ≡ whole
all_yielded yielded whole s t r h is steps =
    let k = subst (λ (o : Option ℕ). escape_steps s o t) is steps in
    sym (append-nil yielded) ∙ (ap (λ (n : ℕ). yielded ++ take n (drop s.from s.chars)) (sym k.1.0) ∙ h)

pub loop-part-init : goal.loop-part-init
loop-part-init g c = record {
  left = search (rules, c.escape_unicode-part-items.ensures.rest);
  handed = λ line before h. none_yet encode_utf8 line _ _ before _ h;
}

-- one character more of the code is put
pub loop-part-preserved : goal.loop-part-preserved
loop-part-preserved g c = record {
  left = one_less _ _ _ _ _ c.in-Some.part c.loop-part.invariant.left c.in-Some.is c.next.ensures.steps;
  handed = λ line before h.
      one_more encode_utf8 line c.loop-part.yielded c.in-Some.part _ _ before _
      (c.put_char.ensures (line ++ flat_map encode_utf8 c.loop-part.yielded) before (c.loop-part.invariant.handed line before h));
}

pub returns : goal.returns
returns g c = λ line before h.
    let all = all_yielded _ _ _ _ _ c.loop-part.invariant.left c.in-None.is c.next.ensures.steps in
    handed_as _ _ _ _ before _ (ap (λ (l : List ℕ). line ++ flat_map encode_utf8 l) all) (c.loop-part.invariant.handed line before h)
