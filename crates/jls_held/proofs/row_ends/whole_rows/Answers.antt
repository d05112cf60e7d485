use Rattle.std.proofs.Common.{ap, ◌∙◌}
use Rattle.jls_pixel.specs.declared.cut_end.PixelCutEnd.TheVariants.{Head}
use Rattle.jls_held.proofs.WholeRows.{by_whole, by_broken, by_long}
use Rattle.jls_held.proofs.row_ends.whole_rows.Goals as goal

-- the rows that the bytes read as
pub returns-in-Whole : goal.returns-in-Whole
returns-in-Whole c =
    by_whole c.args.decoder.now c.in_ok-clone.clone c.in_ok-clone.ensures c.requires.some c.in_ok-found.field-0 c.in_ok-found.ensures.cut_end
    c.len.result c.in-Whole.found c.in-Whole.is c.len.ensures

-- the rows of the head
pub returns-in-Head-default-Broken : goal.returns-in-Head-default-Broken
returns-in-Head-default-Broken c =
    by_broken c.args.decoder.now c.in_ok-clone.clone c.in_ok-clone.ensures c.requires.some c.in_ok-found.field-0 c.in_ok-found.ensures.cut_end
    c.len-in-Head-default-Broken.result c.in-Head-default-Broken.found
    (c.in-Head-default-Broken.is ∙ ap (Head c.in-Head-default-Broken.found) c.in-Head-default-Broken.field-1-is)
    c.len-in-Head-default-Broken.ensures

-- all rows, if the bytes are too long
pub returns-in-Head-default-Long : goal.returns-in-Head-default-Long
returns-in-Head-default-Long c =
    by_long c.args.decoder.now c.in_ok-clone.clone c.in_ok-clone.ensures c.requires.some c.in_ok-found.field-0 c.in_ok-found.ensures.cut_end
    c.args.rows c.in-Head-default-Long.field-0
    (c.in-Head-default-Long.is ∙ ap (Head c.in-Head-default-Long.field-0) c.in-Head-default-Long.field-1-is) c.requires.rows
