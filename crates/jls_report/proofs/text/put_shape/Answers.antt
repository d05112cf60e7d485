use Rattle.std.proofs.Common.{◌≡◌, ◌++◌, ◌∙◌, ap}
use Rattle.std.specs.Prelude.{codes, decimal}
use Rattle.std.specs.List.{join_by}
use Rattle.jls_values.proofs.Lists.{appended}
use Rattle.jls_report.specs.ReportText.{size_text, precision_text}
use Rattle.jls_report.proofs.text.put_shape.Goals as goal

-- the line of the shape is put
pub returns : goal.returns
returns c =
    let shape = c.args.shape.now in
    let out = c.args.out.now.items in
    let ids = join_by decimal (codes ",") shape.ids in
    let ids_put : c.put_ids.new.out.items ≡ c.put_precision.new.out.items ++ ids =
    c.in_ok-put_ids.ensures ∙ ap (λ xs. c.put_precision.new.out.items ++ join_by decimal (codes ",") xs) c.ids.ensures.value in
    appended out (size_text shape ++ precision_text shape ++ ids) (codes "\n") c.put_ids.new.out.items c.extend_from_slice.new.self.items
    (appended out (size_text shape ++ precision_text shape) ids c.put_precision.new.out.items c.put_ids.new.out.items
    (appended out (size_text shape) (precision_text shape) c.put_size.new.out.items c.put_precision.new.out.items c.in_ok-put_size.ensures
    c.in_ok-put_precision.ensures)
    ids_put)
    c.in_ok-extend_from_slice.ensures.items
