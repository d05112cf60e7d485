use Rattle.std.proofs.Common.{◌≡◌, ◌++◌, take}
use Rattle.std.specs.Option.{option_map}
use Rattle.jls_pixel.proofs.pixel_decoder.PixelDecoder.push_all.Given as goal

abbrev pub invariant-loop-byte : goal.invariant-loop-byte
invariant-loop-byte l =
    l.self ≡ record l.initial.self { bytes = option_map (λ bytes. bytes ++ take l.byte-index l.more) l.initial.self.bytes }
