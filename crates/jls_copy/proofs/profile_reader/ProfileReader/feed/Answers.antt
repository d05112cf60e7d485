use Rattle.std.proofs.Common.{◌≡◌, ℕ, List, ◌+◌, ◌-◌, ◌≤◌, ◌^◌, ◌++◌, drop, take, length, sym, ap, ◌∙◌, arith, append_assoc, length-append}
use Rattle.std.proofs.Common.{refl}
use Rattle.std.proofs.Common.{length-drop}
use Rattle.std.proofs.lemmas.List.{append-nil, take_all, length-take-le}
use Rattle.std.proofs.Math.Seq.{take-add}
use Rattle.jls_copy.specs.ReadCopy.{ReaderBytes}
use Rattle.jls_copy.proofs.Gathering.{is_machine, reading_on, of_fed, bytes_between}
use Rattle.jls_copy.proofs.profile_reader.ProfileReader.feed.Goals as goal

-- before the first byte nothing more is fed
pub loop-at-init : goal.loop-at-init
loop-at-init c = record {
  within = omega arith;
  same_profile = refl;
  not_failed = c.if-self.false;
  fed = sym (append-nil c.self.inside.bytes.list);
  reading =
      c.self.invariant c.if-self.false;
}

-- the bytes fed so far and these are few enough
pub take-requires-clause-few : goal.take-requires-clause-few
take-requires-clause-few c =
    let r = c.self.inside in let xs : List ℕ = c.args.slice.now in let at : ℕ = c.loop-at.at in let v = c.loop-at.invariant in
    let small = of_fed r.failed r.bytes.list _ (λ bytes. length bytes + length xs ≤ 2 ^ 63 - 1) (ap (λ
    (v : ReaderBytes). v.bytes) c.self.view_is) c.if-self.false c.requires in
    omega (
      arith,
      v.within,
      v.reading.count_is,
      ap length v.fed,
      length-append r.bytes.list (take at xs),
      length-take-le at xs v.within,
      length-drop at xs,
    )

pub take-requires-clause-machine : goal.take-requires-clause-machine
take-requires-clause-machine c = is_machine _ _ _ c.loop-at.invariant.reading

-- the machine took some bytes more, and stands where they lead
pub loop-at-preserved : goal.loop-at-preserved
loop-at-preserved c =
    let r = c.self.inside in let xs : List ℕ = c.args.slice.now in let at : ℕ = c.loop-at.at in let n : ℕ = c.in-Ok.count in
    let v = c.loop-at.invariant in
    let rest : List ℕ = take (length xs - at) (drop at xs) in let now : List ℕ = c.loop-at.self-inside.bytes.list in
    let all : rest ≡ drop at xs = take_all (length xs - at) (drop at xs) (omega (arith, length-drop at xs)) in
    let small = of_fed r.failed r.bytes.list _ (λ bytes. length bytes + length xs ≤ 2 ^ 63 - 1) (ap (λ
    (v : ReaderBytes). v.bytes) c.self.view_is) c.if-self.false c.requires in
    let few : length now + length rest ≤ 2 ^ 63 - 1 =
    omega (
      arith,
      v.within,
      ap length v.fed,
      length-append r.bytes.list (take at xs),
      length-take-le at xs v.within,
      length-drop at xs,
      ap length all,
    ) in
    record {
      within = (let w = c.in-Ok.ensures.within in omega (arith, v.within, length-drop at xs, ap length all));
      same_profile = v.same_profile;
      not_failed = v.not_failed;
      fed = c.note_all.ensures ∙ ap (λ t. now ++ take n t) all ∙ ap (λ z. z ++ take n (drop at xs)) v.fed
          ∙ append_assoc r.bytes.list (take at xs) (take n (drop at xs)) ∙ ap (λ z. r.bytes.list ++ z) (sym (take-add at n xs));
      reading = rw c.note_all.ensures
          (reading_on c.loop-at.self-inside.profile c.loop-at.self-inside.machine c.take.new.self now rest n v.reading c.in-Ok.ensures few
          (bytes_between n (length xs - at) at xs (λ k. omega (arith, c.type_inv.slice k))));
    }
