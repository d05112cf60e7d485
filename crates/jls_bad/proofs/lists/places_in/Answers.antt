use Rattle.std.proofs.Common.{◌≡◌, ◌==◌, ◌∙◌, ℕ, ◌+◌, ◌<◌, ◌&&◌, List, [], length, get_or, map, sym, ap, subst, arith, Bor, Vec, Global}
use Rattle.std.specs.Prelude.{vec_len}
use Rattle.std.specs.List.{slice_split}
use Rattle.std.proofs.lemmas.List.{length-map}
use Rattle.jls_bad.specs.ListText.{is_empty, meanings, words}
use Rattle.jls_bad.specs.declared.place.Place.{Place}
use Rattle.jls_bad.specs.declared.lines.Line.TheVariants.{Fault}
use Rattle.jls_bad.proofs.ListLines.{AreRead, all_read, as_many_said, fault_read, first_more, line_said, nothing_read, place_read}
use Rattle.jls_bad.proofs.lists.places_in.Goals as goal
use Rattle.jls_bad.proofs.lists.places_in.Goals.{in-Bad+in_ok-push-in-Bad, in-Nothing, then-is_first, else-is_first}

pub returns-in-Fault-clause-fault : goal.returns-in-Fault-clause-fault
returns-in-Fault-clause-fault c =
    let text : List ℕ = c.args.text.now in
    let lines : List (Bor (List ℕ)) = c.deref-line-items.result.now in
    let all : map (λ (l : Bor (List ℕ)). l.now) lines ≡ slice_split (λ byte. byte == 10) text = ap (map (λ (l : Bor (List ℕ)). l.now)) c.deref-line-items.ensures.value ∙ c.in_ok-lines.ensures in
    let found : List (List ℕ) = map (λ (w : Bor (List ℕ)). w.now) c.deref.result.now in
    let found_are : found ≡ words (get_or lines c.loop-at.at (record { ref_ptr = (0, 0); now = [] })).now = ap (map (λ (w : Bor (List ℕ)). w.now)) c.deref.ensures.value ∙ c.in_ok-words.ensures in
    fault_read text c.loop-at.places.items c.loop-at.at c.loop-at.invariant.0 (omega (arith, as_many_said text lines all, c.loop-at-test.true))
    (line_said text lines c.loop-at.at (record { ref_ptr = (0, 0); now = [] }) c.loop-at.is_first found c.line_of_words.result all c.loop-at-test.true c.loop-at.invariant.1 found_are c.line_of_words.ensures
    ∙ c.in-Fault.is)

pub loop-at-preserved : goal.loop-at-preserved
loop-at-preserved c =
    let text : List ℕ = c.args.text.now in
    let lines : List (Bor (List ℕ)) = c.deref-line-items.result.now in
    let d : Bor (List ℕ) = record { ref_ptr = (0, 0); now = [] } in
    let all : map (λ (l : Bor (List ℕ)). l.now) lines ≡ slice_split (λ byte. byte == 10) text = ap (map (λ (l : Bor (List ℕ)). l.now)) c.deref-line-items.ensures.value ∙ c.in_ok-lines.ensures in
    let found : List (List ℕ) = map (λ (w : Bor (List ℕ)). w.now) c.deref.result.now in
    let found_are : found ≡ words (get_or lines c.loop-at.at d).now = ap (map (λ (w : Bor (List ℕ)). w.now)) c.deref.ensures.value ∙ c.in_ok-words.ensures in
    let count : length found ≡ vec_len c.in_ok-words.words = length-map c.deref.result.now (λ (w : Bor (List ℕ)). w.now) ∙ c.deref.ensures.len in
    let said : get_or (meanings text) c.loop-at.at Fault ≡ c.line_of_words.result = line_said text lines c.loop-at.at d c.loop-at.is_first found c.line_of_words.result all c.loop-at-test.true c.loop-at.invariant.1 found_are c.line_of_words.ensures in
    let P : List Place → Type 0 = λ places. AreRead text places (c.loop-at.at + 1) in
    let within : c.loop-at.at < length (meanings text) = omega (arith, as_many_said text lines all, c.loop-at-test.true) in
    let next : c.if-is_first.is_first ≡ (c.loop-at.is_first && is_empty found) = elim c.if-is_first.branch [
      | then-is_first w ↦ w.is_first-is ∙ (w.is_empty-is_first.ensures ∙ (ap (λ n. n == 0) (sym count) ∙ ap (λ b. b && is_empty found) (sym w.if-is_first.true)))
      | else-is_first w ↦ w.is_first-is ∙ (w.if-is_first.false ∙ ap (λ b. b && is_empty found) (sym w.if-is_first.false))
    ] in (
      elim c.match-line_of_words.branch [
        | in-Bad+in_ok-push-in-Bad w ↦ subst P (sym (ap (λ (v : Vec Place Global). v.items) w.places-is ∙ w.in_ok-push-in-Bad.ensures.items))
            (place_read text c.loop-at.places.items c.loop-at.at w.in-Bad.place c.loop-at.invariant.0 within (said ∙ w.in-Bad.is))
        | in-Nothing w ↦ subst P (sym (ap (λ (v : Vec Place Global). v.items) w.places-is))
            (nothing_read text c.loop-at.places.items c.loop-at.at c.loop-at.invariant.0 within (said ∙ w.in-Nothing.is))
      ],
      first_more text lines c.loop-at.at d c.loop-at.is_first c.if-is_first.is_first found all c.loop-at-test.true c.loop-at.invariant.1 found_are next,
    )

pub returns-clause-places : goal.returns-clause-places
returns-clause-places c =
    all_read c.args.text.now c.loop-at.places.items c.loop-at.at c.loop-at.invariant.0 (omega (arith, as_many_said c.args.text.now c.in_ok-lines.lines.items c.in_ok-lines.ensures, c.loop-at-test.false, ap (length {A = Bor (List ℕ)}) c.deref-line-items.ensures.value))
