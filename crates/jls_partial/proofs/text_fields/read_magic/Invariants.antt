use Rattle.std.proofs.Common.{◌≡◌, drop}
use Rattle.jls_partial.specs.TextReading.{magic_field}
use Rattle.jls_partial.proofs.text_fields.read_magic.Given as goal

-- the bytes so far are as wanted, so the answer is that of the rest
abbrev pub invariant-loop-want : goal.invariant-loop-want
invariant-loop-want l = magic_field l.size (drop l.want-index l.wanted) l.rest ≡ magic_field l.fn.size l.fn.wanted l.fn.bytes
