use Rattle.std.proofs.Common.{◌≡◌, ◌++◌, ◌∙◌, ap}
use Rattle.std.specs.Prelude.{codes, decimal}
use Rattle.jls_values.proofs.Lists.{appended}
use Rattle.jls_report.proofs.text.put_precision.Goals as goal

-- the words and the precision are put
pub returns : goal.returns
returns c =
    let shape = c.args.shape.now in
    let out = c.args.out.now.items in
    let number : c.put_number.new.out.items ≡ c.extend_from_slice.new.self.items ++ decimal shape.precision =
    c.in_ok-put_number.ensures.appended ∙ ap (λ n. c.extend_from_slice.new.self.items ++ decimal n) (c.from.ensures ∙ c.precision.ensures.value) in
    appended out (codes ", " ++ decimal shape.precision) (codes " bits, components ") c.put_number.new.out.items
    c.extend_from_slice-2.new.self.items
    (appended out (codes ", ") (decimal shape.precision) c.extend_from_slice.new.self.items c.put_number.new.out.items
    c.in_ok-extend_from_slice.ensures.items number)
    c.in_ok-extend_from_slice-2.ensures.items
