-- Samples of regular mode that are taken one after another.
use Rattle.std.proofs.Common.{◌≡◌, ℕ, zero, suc, ◌+◌, ◌%◌, ◌<◌, Bool, false, List, [], ◌∷◌, ◌++◌, length, get_or, refl, sym, ap, ◌∙◌, subst}
use Rattle.std.proofs.Common.{arith, append_assoc, length-append}
use Rattle.std.proofs.Math.Seq.{get_or-append_seam}
use Rattle.std.proofs.lemmas.List.{append-nil}
use Rattle.std.proofs.lemmas.Bool.{lt-ltb}
use Rattle.jls_values.specs.Params.{CodingParameters, AreCodingParameters, limit, qbpp}
use Rattle.jls_context.specs.declared.mode.Neighbours.{Neighbours}
use Rattle.jls_context.specs.Mode.{is_run_mode, context}
use Rattle.jls_context.specs.Regular.{regular_k}
use Rattle.jls_context.specs.Variables.{Variables, cell_at}
use Rattle.jls_bits.specs.CodeState.{IsOpen}
use Rattle.jls_bits.specs.declared.code_state.CodeState.{CodeState}
use Rattle.jls_interval.specs.Events.{regular, Above, above, neighbours}
use Rattle.jls_interval.specs.Code.{event_bits}
use Rattle.jls_interval.specs.OpenEvents.{now_at, OpenEventAt, EventDone}
use Rattle.jls_interval.specs.Decoding.{IsWorking}
use Rattle.jls_interval.specs.LineSamples.{SampleTaken, SampleBegun, Works, TakenBy, TakesInLine}
use Rattle.jls_interval.specs.declared.coder.Coder.{Coder}
use Rattle.jls_interval.specs.declared.line_reader.OpenEvent.TheVariants.{NotBegun, Sample}
use Rattle.jls_interval.specs.declared.line_reader.LineReader.{LineReader}
use Rattle.jls_interval.proofs.Decoding.{working_on, working_more}

-- The neighbours of the next column -----------------------------------------------------------------

rb_is : (w : ℕ) (up : Above) (line : List ℕ) (x : ℕ) → (neighbours w up line x).rb ≡ get_or up.line_above x 0
rb_is w up line zero = refl
rb_is w up line (suc x) = refl

rd_is : (w : ℕ) (up : Above) (line : List ℕ) (x : ℕ) → x + 1 < w → (neighbours w up line x).rd ≡ get_or up.line_above (x + 1) 0
rd_is w up line zero h = let t = lt-ltb 1 w h in rw t refl
rd_is w up line (suc x) h = let t = lt-ltb (x + 2) w (omega arith) in let e : x + 2 ≡ suc x + 1 = omega arith in
    rw t (ap (λ z. get_or up.line_above z 0) e)

-- Ra is the sample itself, and Rd and Rb become Rb and Rc
pub after_sample : (w : ℕ) (up : Above) (line : List ℕ) (near : Neighbours) (value rd x : ℕ) → x ≡ length line
    → near ≡ neighbours w up line x → x + 2 < w → rd ≡ get_or up.line_above (x + 2) 0
    → record { ra = value; rb = near.rd; rc = near.rb; rd = rd } ≡ neighbours w up (line ++ value ∷ []) (x + 1)
after_sample w up line near value rd x x_is is room rd_at =
    let line' = line ++ value ∷ [] in let e : x + 1 ≡ suc x = omega arith in let t = lt-ltb (x + 2) w room in
    let ra_is : value ≡ get_or line' x 0 = sym (ap (λ z. get_or line' z 0) x_is ∙ get_or-append_seam line value [] 0) in
    let rb_at : near.rd ≡ get_or up.line_above (suc x) 0 = ap (λ (z : Neighbours). z.rd) is ∙ rd_is w up line x (omega arith)
    ∙ ap (λ z. get_or up.line_above z 0) e in
    let rc_is : near.rb ≡ get_or up.line_above x 0 = ap (λ (z : Neighbours). z.rb) is ∙ rb_is w up line x in
    let next : (a b d f : ℕ) → Neighbours = λ a b d f. record { ra = a; rb = b; rc = d; rd = f } in
    let parts : next value near.rd near.rb rd
    ≡ next (get_or line' x 0) (get_or up.line_above (suc x) 0) (get_or up.line_above x 0) (get_or up.line_above (x + 2) 0) = cc in
    parts ∙ rw t refl ∙ ap (neighbours w up line') (sym e)

-- One sample more -----------------------------------------------------------------------------------

module _ (p : CodingParameters) (near : Neighbours) (value : ℕ) (now next : LineReader) (chunk unread : List Bool)
    (s : SampleTaken p near value now.coder next.coder chunk unread)
    (not_begun : now.open_event ≡ NotBegun) (not_begun' : next.open_event ≡ NotBegun) (wide : next.width ≡ now.width)
    (grown : next.line.items ≡ now.line.items ++ value ∷ []) (params : now.coder.cells.parameters ≡ p) where
  -- a sample that is taken is an event more of the line: what the reader holds stays true of the bits so far
  sample_more : (c n : ℕ) (given : List Bool) (lines : List (List ℕ)) → near ≡ now_at now.width (above c lines) now.line.items
      → length now.line.items + 1 < now.width
      → Works p c n given lines now → TakenBy p c n given lines next chunk unread
  sample_more c n given lines near_is room h =
      let w : ℕ = now.width in let up = above c lines in let line : List ℕ = now.line.items in let line' : List ℕ = next.line.items in
      let cells : Variables = now.coder.cells in let cells' : Variables = next.coder.cells in let ri : List ℕ = now.coder.run_indices in
      let ri' : List ℕ = next.coder.run_indices in
      let fed : h.fed ≡ [] = subst (λ z. OpenEventAt p w up line cells (get_or ri (length lines % c) 0) z h.fed) not_begun
      h.open_event_at in
      let taken = event_bits p h.earlier (regular near value) in
      let done : EventDone p w (length lines % c) up line line' cells' ri' (h.fed ++ taken) h.earlier = record {
        event = regular near value;
        fits = (subst (λ (z : Neighbours). is_run_mode z ≡ false) near_is s.not_run, near_is, s.at_most);
        line_is = grown;
        is_after = s.is_after h.earlier h.is_after;
        bits_are = ap (λ z. z ++ taken) fed;
      } in
      let a = length-append line (value ∷ []) in let b = ap length grown in
      let on = working_on p (subst AreCodingParameters params now.coder.in_range) w c n (omega (arith, room)) given lines line cells ri
      now.open_event h taken line' cells' ri' done (omega (arith, room, a, b)) in
      record {
        taken = taken;
        chunk_is = s.bits_are h.earlier h.is_after;
        works = subst (λ z. IsWorking p z c n (given ++ taken) lines line' cells' ri' next.open_event) (sym wide)
            (subst (λ z. IsWorking p w c n (given ++ taken) lines line' cells' ri' z) (sym not_begun') on);
      }

module _ (k : ℕ) (up : Above) (old now next : LineReader) (chunk unread unread' : List Bool) (near : Neighbours) (value : ℕ) where
  -- samples that were taken in a line, and one more, are samples taken in that line
  pub taken_more : SampleTaken now.coder.cells.parameters near value now.coder next.coder unread unread' → now.open_event ≡ NotBegun
      → next.open_event ≡ NotBegun
      → next.width ≡ now.width → next.line.items ≡ now.line.items ++ value ∷ [] → now.coder.cells.parameters ≡ old.coder.cells.parameters
      → near ≡ now_at now.width up now.line.items → length now.line.items + 1 < now.width
      → TakesInLine k up old now chunk unread → TakesInLine k up old next chunk unread'
  taken_more s not_begun not_begun' wide grown params near_is room t = λ c n given lines k_is up_is h.
      let p = old.coder.cells.parameters in
      let a = t c n given lines k_is up_is h in
      let s' = subst (λ q. SampleTaken q near value now.coder next.coder unread unread') params s in
      let b = sample_more p near value now next unread unread' s' not_begun not_begun' wide grown params c n (given ++ a.taken) lines
      (subst (λ (z : Above). near ≡ now_at now.width z now.line.items) up_is near_is) room a.works in
      record {
        taken = a.taken ++ b.taken;
        chunk_is = a.chunk_is ∙ ap (λ z. a.taken ++ z) b.chunk_is ∙ sym (append_assoc a.taken b.taken unread');
        works = subst (λ z. Works p c n z lines next) (append_assoc given a.taken b.taken) b.works;
      }

-- nothing taken
pub taken_none : (k : ℕ) (up : Above) (old : LineReader) (chunk : List Bool) → TakesInLine k up old old chunk chunk
taken_none k up old chunk = λ c n given lines k_is up_is h.
    record { taken = []; chunk_is = refl; works = subst (λ z. Works old.coder.cells.parameters c n z lines old) (sym (append-nil given)) h }

-- samples that are taken in a line, with equal variables
pub taken_same : (k : ℕ) (up : Above) (old now : LineReader) (chunk unread unread' : List Bool) (coder' : Coder) → coder' ≡ now.coder
    → unread' ≡ unread → TakesInLine k up old now chunk unread → TakesInLine k up old (record now { coder = coder' }) chunk unread'
taken_same k up old now chunk unread unread' coder' a b t =
    subst (λ (z : Coder). TakesInLine k up old (record now { coder = z }) chunk unread') (sym a)
    (subst (λ z. TakesInLine k up old now chunk z) (sym b) t)

-- the first bits of a sample
pub begun_same : (k : ℕ) (up : Above) (old now : LineReader) (chunk unread unread' : List Bool) (near : Neighbours) (code : CodeState)
    (coder' : Coder)
    → SampleBegun now.coder.cells.parameters near now.coder.cells code unread unread' → coder' ≡ now.coder → now.open_event ≡ NotBegun
    → now.coder.cells.parameters ≡ old.coder.cells.parameters → near ≡ now_at now.width up now.line.items
    → TakesInLine k up old now chunk unread → TakesInLine k up old (record now { coder = coder'; open_event = Sample code }) chunk unread'
begun_same k up old now chunk unread unread' near code coder' s same not_begun params near_is t = λ c n given lines k_is up_is h.
    let p = old.coder.cells.parameters in let w : ℕ = now.width in let line : List ℕ = now.line.items in
    let cells : Variables = now.coder.cells in let ri : List ℕ = now.coder.run_indices in
    let a = t c n given lines k_is up_is h in let x = a.works in let there = above c lines in
    let fed : x.fed ≡ [] = subst (λ z. OpenEventAt p w there line cells (get_or ri (length lines % c) 0) z x.fed) not_begun
    x.open_event_at in
    let s' = subst (λ q. SampleBegun q near cells code unread unread') params s in
    let near' : near ≡ now_at w there line = subst (λ (z : Above). near ≡ now_at w z line) up_is near_is in
    let at : OpenEventAt p w there line cells (get_or ri (length lines % c) 0) (Sample code) (x.fed ++ unread) = (
      subst (λ (z : Neighbours). is_run_mode z ≡ false) near' s'.not_run,
      subst (λ (z : Neighbours). IsOpen (regular_k (cell_at cells (context p z))) (limit p) (qbpp p) code) near' s'.opened,
      ap (λ z. z ++ unread) fed ∙ s'.fed,
    ) in
    let more = working_more p (subst AreCodingParameters params now.coder.in_range) w c n (let u = x.unfinished in omega arith)
    (given ++ a.taken) lines line cells ri now.open_event x unread (Sample code) at in
    let all = append_assoc given a.taken unread in
    record {
      taken = a.taken ++ unread;
      chunk_is = a.chunk_is ∙ sym (append-nil (a.taken ++ unread)) ∙ ap (λ z. (a.taken ++ unread) ++ z) (sym s.all);
      works = subst (λ (z : Coder). Works p c n (given ++ (a.taken ++ unread)) lines (record now { coder = z; open_event = Sample code }))
          (sym same) (subst (λ z. IsWorking p w c n z lines line cells ri (Sample code)) all more);
    }
