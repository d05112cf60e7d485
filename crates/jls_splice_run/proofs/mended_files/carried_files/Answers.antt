use Rattle.std.proofs.Common.{◌≡◌, ℕ, ◌+◌, ◌++◌, List, [], ◌∷◌, Option, Bor, length, map, take, ap, sym, ◌∙◌, subst, arith}
use Rattle.std.specs.Prelude.{option_map}
use Rattle.std.specs.String.{string_bytes}
use Rattle.std.proofs.lemmas.List.{length-map, length-take-le, map-append, take-map, take_min}
use Rattle.std.proofs.lemmas.List.Elements.{AllZip-push}
use Rattle.jls_held.specs.Mending.{file_of}
use Rattle.jls_held.specs.declared.mending.MendedCopy.{MendedCopy}
use Rattle.jls_splice_run.specs.Carrying.{carried_files, numbered_from}
use Rattle.jls_splice_run.specs.Completing.{IsCompleted}
use Rattle.jls_splice_run.specs.Listing.{AreCompleted, NamedFile, named_file, named_files, numbered}
use Rattle.jls_splice_run.proofs.MendedNumbers.{file_more}
use Rattle.jls_carried.proofs.MappedLists.{mapped_one_more}
use Rattle.jls_splice_run.proofs.mended_files.carried_files.Goals as goal

pub loop-place-preserved : goal.loop-place-preserved
loop-place-preserved c =
    let files = c.args.files.now in
    let place = c.loop-place.place in
    let prefix = c.in-Some.prefix.now in
    let v = c.index-files-place.result in
    let before = map file_of (take place files) in
    let m = c.min-place-end.ensures in
    let within = c.loop-place-test.true in
    let counted = length-map (take place files) file_of in
    let taken = length-take-le place files (omega (arith, m, within)) in
    let number : place + 1 ≡ 1 + length before = omega (arith, counted, taken) in
    let one : NamedFile = record { name = numbered prefix (1 + length before); bytes = v.bytes.items } in
    let whole : NamedFile = record { name = string_bytes c.in_ok-name.name; bytes = c.in_ok-bytes.bytes.items } in
    let completed : IsCompleted v.bytes.items whole.bytes =
    subst (λ (bytes : List ℕ). IsCompleted bytes whole.bytes)
    (c.deref.ensures.value ∙ ap (λ (f : MendedCopy). f.bytes.items) (sym c.index-files-place.is)) c.in_ok-bytes.ensures in
    let listed : numbered_from prefix 1 (map file_of (take (place + 1) files)) ≡ numbered_from prefix 1 before ++ one ∷ [] =
    ap (numbered_from prefix 1) (mapped_one_more file_of files place v (omega (arith, m, within)) c.index-files-place.is)
    ∙ file_more prefix 1 before (file_of v) in
    let pushed : named_files c.push.new.self.items ≡ named_files c.loop-place.named.items ++ whole ∷ [] =
    ap named_files c.in_ok-push.ensures.items ∙ map-append named_file c.loop-place.named.items (_ ∷ []) in
    subst (λ (xs : List NamedFile). AreCompleted xs (named_files c.push.new.self.items)) (sym listed)
    (subst (λ (ys : List NamedFile). AreCompleted (numbered_from prefix 1 before ++ one ∷ []) ys) (sym pushed)
    (AllZip-push (λ (file other : NamedFile). (other.name ≡ file.name) × IsCompleted file.bytes other.bytes)
    (numbered_from prefix 1 before) (named_files c.loop-place.named.items) one whole c.loop-place.invariant
    (c.in_ok-name.ensures ∙ ap (numbered prefix) number, completed)))

pub returns : goal.returns
returns c =
    let files = c.args.files.now in
    let prefix = c.in-Some.prefix.now in
    let all : c.loop-place.place ≡ c.min-place-end.result = omega (arith, c.loop-place-test.false, c.loop-place.auto.place-end) in
    subst (λ (xs : List NamedFile). AreCompleted xs (named_files c.loop-place.named.items))
    (ap (λ (n : ℕ). numbered_from prefix 1 (map file_of (take n files))) (all ∙ c.min-place-end.ensures)
    ∙ ap (λ (fs : List MendedCopy). numbered_from prefix 1 (map file_of fs)) (take_min 64 files)
    ∙ ap (numbered_from prefix 1) (sym (take-map file_of 64 files))
    ∙ ap (λ (o : Option (Bor (List ℕ))). carried_files (option_map (λ (s : Bor (List ℕ)). s.now) o) (map file_of files))
    (sym c.in-Some.is))
    c.loop-place.invariant
