use Rattle.std.proofs.Common.{◌≡◌, ◌++◌, ◌∙◌, List, ℕ, ap, codes, decimal, append_assoc}
use Rattle.jls_host.proofs.name.name_beside.Goals as goal

-- three parts, one after the other
parts : (a b c x y z : List ℕ) → x ≡ a → y ≡ x ++ b → z ≡ y ++ c → z ≡ a ++ (b ++ c)
parts a b c x y z e f g =
    g ∙ (ap (λ (l : List ℕ). l ++ c) f ∙ (append_assoc x b c ∙ ap (λ (l : List ℕ). l ++ (b ++ c)) e))

pub returns-clause-named : goal.returns-clause-named
returns-clause-named c =
    let first : c.try_push_str.new.self.bytes ≡ c.args.name.now = c.in-Ok.ensures.ok
    ∙ ap (λ (l : List ℕ). l ++ c.args.name.now) c.new-beside.ensures in
    let last : c.try_push_str-3.new.self.bytes ≡ c.try_push_str-2.new.self.bytes ++ decimal c.args.number =
    c.in-Ok-try_push_str-2.ensures.ok ∙ ap (λ (l : List ℕ). c.try_push_str-2.new.self.bytes ++ l) c.format-digits.ensures.text in
    parts c.args.name.now (codes ".jls-salvage-") (decimal c.args.number) c.try_push_str.new.self.bytes c.try_push_str-2.new.self.bytes
    c.try_push_str-3.new.self.bytes
    first c.in-Ok-try_push_str.ensures.ok last
