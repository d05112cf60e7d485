-- What calls answer, unless memory is refused: names that contracts share.
use Rattle.std.specs.Prelude.{◌≡◌, Bool, true, false, Option, Result, IfOk, IfSome, IfNone}

-- an answer of yes says this
abbrev pub IfYes : {E : Type 0} → Result Bool E → Type 0 → Type 0
IfYes result P = IfOk result (λ answer. answer ≡ true → P)

-- an answer of no says this
abbrev pub IfNo : {E : Type 0} → Result Bool E → Type 0 → Type 0
IfNo result P = IfOk result (λ answer. answer ≡ false → P)

-- what is found is this
abbrev pub IfFound : {T E : Type 0} → Result (Option T) E → (T → Type 0) → Type 0
IfFound result P = IfOk result (λ found. IfSome found P)

-- that none is found says this
abbrev pub IfNoneFound : {T E : Type 0} → Result (Option T) E → Type 0 → Type 0
IfNoneFound result P = IfOk result (λ found. IfNone found P)
