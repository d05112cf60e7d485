use Rattle.std.proofs.Common.{◌≡◌, ℕ, ◌+◌, Bool, List, [], ◌∷◌, ◌++◌, Vec, Global, drop, get_or, sym, ap, ◌∙◌}
use Rattle.std.specs.Prelude.{codes, nat_eq}
use Rattle.std.proofs.lemmas.List.{drop_more}
use Rattle.jls_splice_run.specs.Lines.{in_prefix}
use Rattle.jls_splice_run.proofs.LineBegins.{line_begins, line_goes_on}
use Rattle.jls_splice_run.proofs.noting.put_first.Goals.{then-begins+in_ok-extend_from_slice, else-begins}
use Rattle.jls_splice_run.proofs.noting.put_first.Goals as goal

pub loop-byte-preserved : goal.loop-byte-preserved
loop-byte-preserved c =
    let words = codes "jls-splice: " in
    let text = c.args.text.now in
    let i = c.loop-byte.byte-index in
    let byte = get_or text i 0 in
    let rest = drop (i + 1) text in
    let is : drop i text ≡ byte ∷ rest = drop_more text i 0 c.loop-byte-test.true in
    let out = c.loop-byte.out.items in
    let new = c.push.new.self.items in
    let pushed : new ≡ c.if-begins.out.items ++ byte ∷ [] = c.in_ok-push.ensures.items in
    elim c.if-begins.branch [
      | then-begins+in_ok-extend_from_slice w ↦
          (let grown : new ≡ (out ++ words) ++ byte ∷ [] =
          pushed ∙ ap (λ (v : Vec ℕ Global). v.items ++ byte ∷ []) w.out-is
          ∙ ap (λ (xs : List ℕ). xs ++ byte ∷ []) w.in_ok-extend_from_slice.ensures.items in
          ap (λ (xs : List ℕ). xs ++ in_prefix words (nat_eq byte 10) rest) grown ∙ line_begins words out rest (drop i text) byte is
          ∙ ap (λ (b : Bool). out ++ in_prefix words b (drop i text)) (sym w.if-begins.true) ∙ c.loop-byte.invariant)
      | else-begins w ↦
          (let grown : new ≡ out ++ byte ∷ [] = pushed ∙ ap (λ (v : Vec ℕ Global). v.items ++ byte ∷ []) w.out-is in
          ap (λ (xs : List ℕ). xs ++ in_prefix words (nat_eq byte 10) rest) grown ∙ line_goes_on words out rest (drop i text) byte is
          ∙ ap (λ (b : Bool). out ++ in_prefix words b (drop i text)) (sym w.if-begins.false) ∙ c.loop-byte.invariant)
    ]
