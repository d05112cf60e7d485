use Rattle.std.proofs.Common.{◌+◌, drop, get_or}
use Rattle.std.proofs.lemmas.List.{drop_more, drop_all}
use Rattle.std.proofs.lemmas.Result.{err_from_is_err_and}
use Rattle.jls_partial.specs.TextReading.{magic_field}
use Rattle.jls_partial.proofs.TextLoops.{magic_goes_on, magic_differs, magic_ends, magic_done}
use Rattle.jls_partial.proofs.text_fields.read_magic.Goals as goal

-- the text ends inside the magic
pub returns-in_err-byte : goal.returns-in_err-byte
returns-in_err-byte c =
    let p = err_from_is_err_and c.from_residual.result c.from_residual.ensures.1 in
    let w = c.args.wanted.now in
    let i = c.loop-want.want-index in
    rw (p.1, p.2) (magic_ends c.in_err-byte.field-0.0 c.args.size (drop i w) (get_or w i 0) (drop (i + 1) w) c.loop-want.rest.now
    (magic_field c.args.size w c.args.bytes.now) (drop_more w i 0 c.loop-want-test.true) c.in_err-byte.ensures c.loop-want.invariant)

-- a byte of the magic differs
pub returns-then-byte-want : goal.returns-then-byte-want
returns-then-byte-want c =
    let w = c.args.wanted.now in
    let i = c.loop-want.want-index in
    rw c.offset.ensures (magic_differs c.args.size (drop i w) (get_or w i 0) (drop (i + 1) w) c.loop-want.rest.now c.in_ok-byte.byte
    c.in_ok-byte.after.now (magic_field c.args.size w c.args.bytes.now) (drop_more w i 0 c.loop-want-test.true) c.in_ok-byte.ensures
    c.if-byte-want.true c.loop-want.invariant)

-- one byte more is as wanted
pub loop-want-preserved : goal.loop-want-preserved
loop-want-preserved c =
    let w = c.args.wanted.now in
    let i = c.loop-want.want-index in
    magic_goes_on c.args.size (drop i w) (get_or w i 0) (drop (i + 1) w) c.loop-want.rest.now c.in_ok-byte.byte c.in_ok-byte.after.now
    (magic_field c.args.size w c.args.bytes.now) (drop_more w i 0 c.loop-want-test.true) c.in_ok-byte.ensures c.if-byte-want.false
    c.loop-want.invariant

pub returns : goal.returns
returns c =
    let w = c.args.wanted.now in
    magic_done c.args.size (drop c.loop-want.want-index w) c.loop-want.rest.now (magic_field c.args.size w c.args.bytes.now)
    (drop_all c.loop-want.want-index w c.loop-want-test.false) c.loop-want.invariant
