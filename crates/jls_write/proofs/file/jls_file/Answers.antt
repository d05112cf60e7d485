use Rattle.std.proofs.Common.{[], ◌∷◌}
use Rattle.jls_write.specs.WrittenFile.{header_bytes, scans_bytes}
use Rattle.jls_write.proofs.Joining.{end_joined}
use Rattle.jls_write.proofs.file.jls_file.Goals as goal

-- headers, scans and EOI, joined, are the file
pub returns : goal.returns
returns c =
    end_joined c.in_ok-front.field-0.front.items c.in_ok-front.field-0.back.items c.extend_from_slice.new.self.items c.new.result.items
    c.in_ok-header_bytes.field-0.items (header_bytes c.args.picture.now c.args.options.now)
    (scans_bytes c.args.picture.now c.args.options.now)
    (0xFF ∷ 0xD9 ∷ []) c.in_ok-front.ensures c.new.ensures.items c.in_ok-header_bytes.ensures.value
    c.in_ok-extend_from_slice.ensures.items
