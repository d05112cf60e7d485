use Rattle.std.proofs.Common.{◌≡◌, ℕ, ◌-◌, ◌+◌, List, map, sym, ap, ◌∙◌, arith}
use Rattle.std.specs.List.{flat_map, range_with_len}
use Rattle.std.proofs.lemmas.Result.{IfOk-weaker}
use Rattle.jls_values.specs.Params.{CodingParameters}
use Rattle.jls_interval.specs.Reads.{packed}
use Rattle.jls_marker.specs.Scan.{Scan, first_row, row_count}
use Rattle.jls_write.specs.Picture.{WholePicture}
use Rattle.jls_write.specs.Options.{WriteOptions}
use Rattle.jls_write.specs.WrittenFile as spec
use Rattle.jls_write.specs.Parts.{scan_from}
use Rattle.jls_write.proofs.IntervalLines.{lines_fit, length_range}
use Rattle.jls_write.proofs.intervals.interval_code.Goals as goal

-- the rows from one to before another, where these are the interval's
rows_are : (pic : WholePicture) (s : Scan) (k first end : ℕ) (lines : List (List ℕ)) → first ≡ first_row s k → end ≡ first + row_count s k
    → lines ≡ flat_map (spec.row_lines pic s.components) (range_with_len first (end - first)) → lines ≡ spec.interval_lines pic s k
rows_are pic s k first end lines first_is end_is is =
    let size : end - first ≡ row_count s k = omega arith in
    is ∙ ap (λ n. flat_map (spec.row_lines pic s.components) (range_with_len first n)) size
    ∙ ap (λ n. flat_map (spec.row_lines pic s.components) (range_with_len n (row_count s k))) first_is

-- the code of the interval from what the function passes
code_is : (pic : WholePicture) (o : WriteOptions) (first count k width : ℕ) (p : CodingParameters) (lines : List (List ℕ)) → p ≡ o.params
    → width ≡ pic.shape.width → lines ≡ spec.interval_lines pic (scan_from pic o first count) k
    → packed p width count lines ≡ spec.interval_code pic (scan_from pic o first count) k
code_is pic o first count k width p lines params width_is is =
    rw (params, width_is, is) (ap (λ n. packed o.params pic.shape.width n (spec.interval_lines pic (scan_from pic o first count) k))
    (sym (length_range first count)))

-- the lines of the interval fit one
pub encode_interval-requires : goal.encode_interval-requires
encode_interval-requires c =
    let part = c.args.part.now in
    let pic = part.picture.now in
    let width_is : c.width-width.result ≡ pic.shape.width = c.width-width.ensures.value ∙ ap (λ shape. shape.width) c.shape.ensures in
    let deref_is : map (λ line. line.now) c.deref.result.now ≡ map (λ line. line.now) c.in_ok-lines.lines.items =
    ap (map (λ line. line.now)) c.deref.ensures.value in
    let lines_are = rows_are pic (scan_from pic part.options part.first part.count) c.args.interval _ _ _
    c.row_range-first.ensures.first c.row_range-first.ensures.end c.in_ok-lines.ensures.lines in
    rw (width_is, c.params.ensures, deref_is) (lines_fit pic part.options part.first part.count c.args.interval _ c.requires.part
    c.requires.interval lines_are c.in_ok-lines.ensures.each)

-- the bytes are the code of the interval's lines
pub returns : goal.returns
returns c =
    let part = c.args.part.now in
    let s = scan_from part.picture.now part.options part.first part.count in
    let lines_are : map (λ line. line.now) c.deref.result.now ≡ spec.interval_lines part.picture.now s c.args.interval =
    ap (map (λ line. line.now)) c.deref.ensures.value
    ∙ rows_are part.picture.now s c.args.interval _ _ _ c.row_range-first.ensures.first c.row_range-first.ensures.end
    c.in_ok-lines.ensures.lines in
    IfOk-weaker c.encode_interval.result
    (λ bytes. bytes.items ≡ packed c.params.result c.width-width.result part.count (map (λ line. line.now) c.deref.result.now))
    (λ bytes. bytes.items ≡ spec.interval_code part.picture.now s c.args.interval)
    (λ bytes is. is ∙ code_is part.picture.now part.options part.first part.count c.args.interval _ _ _ c.params.ensures
    (c.width-width.ensures.value ∙ ap (λ shape. shape.width) c.shape.ensures) lines_are) c.encode_interval.ensures.packed
