-- Lines that get into blocks and come out of them.
use Rattle.std.proofs.Common.{◌≡◌, ℕ, List, [], ◌∷◌, ◌++◌, take, drop, map, Vec, Global, sym, ap, ◌∙◌, append_assoc}
use Rattle.std.proofs.lemmas.List.{append-nil, map-append, take-append-drop}
use Rattle.std.proofs.lemmas.Grind.{flat_map-append}
use Rattle.std.specs.declared.rc.Rc.{Rc}
use Rattle.jls_interval.specs.FinishedLines.{in_order, finished}

abbrev items : List (Vec ℕ Global) → List (List ℕ)
items vs = map (λ v. v.items) vs

abbrev Block : Type 0
Block = Rc (Vec (Vec ℕ Global) Global) Global

-- one more block
pub in_order_more : (blocks : List Block) (block : Block) → in_order (blocks ++ block ∷ []) ≡ in_order blocks ++ items block.value.items
in_order_more blocks block =
    flat_map-append (λ (b : Block). items b.value.items) blocks (block ∷ [])
    ∙ ap (λ z. in_order blocks ++ z) (append-nil (items block.value.items))

-- the first lines get into a block
pub into_block : (blocks blocks' : List Block) (block : Block) (lines first last : List (Vec ℕ Global)) (n : ℕ)
    → blocks' ≡ blocks ++ block ∷ [] → block.value.items ≡ first → first ≡ take n lines → last ≡ drop n lines
    → finished blocks' last ≡ finished blocks lines
into_block blocks blocks' block lines first last n blocks_are block_is first_is last_is =
    let F = in_order blocks in
    ap (λ z. in_order z ++ items last) blocks_are ∙ ap (λ z. z ++ items last) (in_order_more blocks block)
    ∙ ap (λ z. (F ++ items z) ++ items last) (block_is ∙ first_is) ∙ ap (λ z. (F ++ items (take n lines)) ++ items z) last_is
    ∙ append_assoc F (items (take n lines)) (items (drop n lines))
    ∙ ap (λ z. F ++ z) (sym (map-append (λ (v : Vec ℕ Global). v.items) (take n lines) (drop n lines)))
    ∙ ap (λ z. F ++ items z) (take-append-drop n lines)
