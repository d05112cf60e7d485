use Rattle.std.proofs.Common.{◌≡◌, ℕ, ◌*◌, ◌<◌, Bool, false, List, sym, subst, arith}
use Rattle.std.specs.Prelude.{IfSome}
use Rattle.std.proofs.lemmas.Bool.Decides.{nat_tests}
use Rattle.jls_values.specs.Params.{CodingParameters}
use Rattle.jls_bits.specs.Bits.{bits_read}
use Rattle.jls_interval.specs.Lines.{interval_shape}
use Rattle.jls_interval.specs.Reads.{ReadsNoMore}
use Rattle.jls_interval.specs.Decoding.{BeginsNoCode, IsComplete, StateIs}
use Rattle.jls_interval.specs.IntervalBytes.{IntervalBytes, bytes_of, interval_asked}
use Rattle.jls_interval.specs.declared.line_reader.LineReader.{LineReader}
use Rattle.jls_interval.specs.declared.interval_reader.State.{State}
use Rattle.jls_interval.proofs.NoMore.{unwhole_reads_no_more, no_code_reads_no_more, over_reads_no_more}
use Rattle.jls_interval.proofs.interval_decoder.IntervalDecoder.reads_no_more.Goals as goal

-- bytes that read as no lines, whatever follows, in the words of the decoder's record
said : (p : CodingParameters) (w n rows count : ℕ) (refused : Bool) (bytes : List ℕ) (z : IntervalBytes) → refused ≡ false
    → count ≡ rows * n
    → (let v : IntervalBytes = record { parameters = p; width = w; components = n; rows = rows; bytes = bytes_of refused bytes } in v) ≡ z
    → ReadsNoMore (interval_shape p w n count) bytes
    → IfSome z.bytes (λ bytes. ReadsNoMore (interval_asked z) bytes)
said p w n rows count refused bytes z e k view h =
    subst (λ (z : IntervalBytes). IfSome z.bytes (λ bytes. ReadsNoMore (interval_asked z) bytes)) view
    (subst (λ r. IfSome (bytes_of r bytes) (λ b. ReadsNoMore (interval_shape p w n (rows * n)) b)) (sym e)
    (subst (λ m. ReadsNoMore (interval_shape p w n m) bytes) k h))

-- a byte ended the data: the piece is broken
pub returns-then-self-2 : goal.returns-then-self-2
returns-then-self-2 c = λ _.
    let i = c.self.inside in let d = i.reader in let v = c.self.invariant in
    said i.params d.reader.width d.components i.rows d.count i.refused i.unstuffer _ c.if-self.false v.count_is c.self.view_is
    (unwhole_reads_no_more i.params d.reader.width d.components d.count i.unstuffer
    ((v.decoding c.if-self.false).ended_is c.if-self-2.true))

-- what the state of a reading says, at the state that was matched
at_state : (p : CodingParameters) (w n count : ℕ) (given : List Bool) (lines : List (List ℕ)) (r : LineReader) (s t : State) → s ≡ t
    → StateIs p w n count given lines r.line.items r.coder.cells r.coder.run_indices r.open_event s
    → StateIs p w n count given lines r.line.items r.coder.cells r.coder.run_indices r.open_event t
at_state p w n count given lines r s t e h =
    subst (λ s. StateIs p w n count given lines r.line.items r.coder.cells r.coder.run_indices r.open_event s) e h

-- the bits begin no code, whatever follows
pub returns-in-NoCode : goal.returns-in-NoCode
returns-in-NoCode c = λ _.
    let i = c.self.inside in let d = i.reader in let v = c.self.invariant in let w : ℕ = d.reader.width in let n : ℕ = d.components in
    let reading = (v.decoding c.if-self.false).reading c.if-self-2.false in
    let lines : List (List ℕ) = d.lines in
    let no_code : BeginsNoCode i.params w n d.count (bits_read i.unstuffer) =
    at_state i.params w n d.count (bits_read i.unstuffer) lines d.reader d.state _ c.in-NoCode.is reading.state_is in
    said i.params w n i.rows d.count i.refused i.unstuffer _ c.if-self.false v.count_is c.self.view_is
    (no_code_reads_no_more i.params w n d.count i.unstuffer no_code)

-- all lines are there, and too many bits follow them
pub returns-in-Complete : goal.returns-in-Complete
returns-in-Complete c = λ many.
    let i = c.self.inside in let d = i.reader in let v = c.self.invariant in let w : ℕ = d.reader.width in let n : ℕ = d.components in
    let reading = (v.decoding c.if-self.false).reading c.if-self-2.false in
    let lines : List (List ℕ) = d.lines in
    let over : IsComplete i.params w n d.count (bits_read i.unstuffer) lines c.in-Complete.extra =
    at_state i.params w n d.count (bits_read i.unstuffer) lines d.reader d.state _ c.in-Complete.is reading.state_is in
    let high : 7 < c.in-Complete.extra = grind (arith, nat_tests, many) in
    said i.params w n i.rows d.count i.refused i.unstuffer _ c.if-self.false v.count_is c.self.view_is
    (over_reads_no_more i.params w n d.count i.unstuffer v.in_range v.width_at_least lines c.in-Complete.extra over high)
