use Rattle.std.proofs.Common.{rules, ◌≡◌, ℕ, List, [], Ok, ap, sym, ◌∙◌}
use Rattle.jls_partial.specs.declared.version.Version.{Version}
use Rattle.jls_partial.specs.declared.version.Version.TheVariants.{One}
use Rattle.jls_partial.specs.TextReading.{own_sources_fields}
use Rattle.jls_partial.proofs.text_reading.read_own_sources.Goals as goal

-- a text of version 1 has none
none_read : (size : ℕ) (version : Version) (bytes items : List ℕ) → version ≡ One → items ≡ []
    → own_sources_fields size version bytes ≡ Ok (items, bytes)
unfolding own_sources_fields
none_read size version bytes items is none =
    ap (λ (v : Version). own_sources_fields size v bytes) is ∙ ap (λ (xs : List ℕ). Ok (xs, bytes)) (sym none)

pub returns-in-One : goal.returns-in-One
returns-in-One c = none_read c.args.size c.args.version c.args.bytes.now _ c.in-One.is (search rules)
