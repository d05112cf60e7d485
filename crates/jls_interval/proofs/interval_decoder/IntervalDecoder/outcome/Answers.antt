use Rattle.std.proofs.Common.{◌≡◌, ℕ, ◌*◌, Bool, false, List, Result, Err, sym, subst}
use Rattle.std.specs.Prelude.{MatchOption}
use Rattle.jls_values.specs.Params.{CodingParameters}
use Rattle.jls_interval.specs.Lines.{interval_shape}
use Rattle.jls_interval.specs.Reads.{IsBroken}
use Rattle.jls_interval.specs.IntervalBytes.{IntervalBytes, bytes_of, interval_asked}
use Rattle.jls_interval.specs.declared.decode_piece.PieceFault.{PieceFault}
use Rattle.jls_interval.specs.declared.decode_piece.PieceFault.TheVariants.{Broken, OutOfMemory}
use Rattle.jls_interval.proofs.Finishing.{working_breaks, stopped_breaks}
use Rattle.jls_interval.proofs.interval_decoder.IntervalDecoder.outcome.Goals as goal

-- bytes that are broken, where no push was refused
seen : (v : IntervalBytes) (refused : Bool) (q : CodingParameters) (w n rows count : ℕ) (bytes : List ℕ) → refused ≡ false
    → record { parameters = q; width = w; components = n; rows = rows; bytes = bytes_of refused bytes } ≡ v → count ≡ rows * n
    → IsBroken (interval_shape q w n count) bytes
    → MatchOption v.bytes ((let r : Result (List (List ℕ)) PieceFault = Err Broken in r) ≡ Err OutOfMemory)
    (λ bytes. IsBroken (interval_asked v) bytes)
seen v refused q w n rows count bytes granted view count_is broken =
    let Q : Type 0 = ((let r : Result (List (List ℕ)) PieceFault = Err Broken in r) ≡ Err OutOfMemory) in
    let all : IsBroken (interval_shape q w n (rows * n)) bytes = subst (λ z. IsBroken (interval_shape q w n z) bytes) count_is broken in
    let there : MatchOption (bytes_of refused bytes) Q (λ bytes. IsBroken (interval_shape q w n (rows * n)) bytes) =
    subst (λ r. MatchOption (bytes_of r bytes) Q (λ bytes. IsBroken (interval_shape q w n (rows * n)) bytes)) (sym granted) all in
    subst (λ (z : IntervalBytes). MatchOption z.bytes Q (λ bytes. IsBroken (interval_asked z) bytes)) view there

pub returns-in-Working-clause-outcome : goal.returns-in-Working-clause-outcome
returns-in-Working-clause-outcome c =
    let i = c.self.inside in let v = c.self.invariant in let r = (v.decoding c.if-self.false).reading c.if-self-2.false in
    seen c.args.self i.refused i.params i.reader.reader.width i.reader.components i.rows i.reader.count i.unstuffer c.if-self.false
    c.self.view_is v.count_is (working_breaks i.params i.reader i.unstuffer r c.in-Working.is)

pub returns-in-NoCode-clause-outcome : goal.returns-in-NoCode-clause-outcome
returns-in-NoCode-clause-outcome c =
    let i = c.self.inside in let v = c.self.invariant in let r = (v.decoding c.if-self.false).reading c.if-self-2.false in
    seen c.args.self i.refused i.params i.reader.reader.width i.reader.components i.rows i.reader.count i.unstuffer c.if-self.false
    c.self.view_is v.count_is (stopped_breaks i.params i.reader i.unstuffer r c.in-NoCode.is)
