-- The last of some outputs.
use Rattle.std.proofs.Common.{◌≡◌, ℕ, ◌+◌, ◌-◌, ◌<◌, List, [], ◌∷◌, ◌++◌, get_or, length, set, take, sym, ap, ◌∙◌, arith}
use Rattle.std.proofs.lemmas.List.{length-set, map_push, take_all, take_more, take_more_set}
use Rattle.jls_memory.specs.Files.{File}
use Rattle.jls_memory.specs.Held.{AreLonger, output_file, output_files}
use Rattle.jls_memory.specs.declared.files.Output.{Output}

module _ (outputs : List Output) (n : ℕ) (is : n ≡ length outputs) (some : 0 < n) (last : Output) (at : last ≡ get_or outputs (n - 1) last)
  where
    place : n - 1 < length outputs
    place = omega (arith, is, some)

    all : n - 1 + 1 ≡ length outputs
    all = omega (arith, is, some)

    parted : outputs ≡ take (n - 1) outputs ++ last ∷ []
    parted =
        sym (take_all (n - 1 + 1) outputs (omega (arith, all)))
        ∙ (take_more outputs (n - 1) last place ∙ ap (λ (o : Output). take (n - 1) outputs ++ o ∷ []) (sym at))

    changed : (new : Output) → set outputs (n - 1) new ≡ take (n - 1) outputs ++ new ∷ []
    changed new =
        let len = length-set outputs (n - 1) new in
        sym (take_all (n - 1 + 1) (set outputs (n - 1) new) (omega (arith, all, len))) ∙ take_more_set outputs (n - 1) new place

    pub is_longer : (new : Output) (bytes : List ℕ)
        → output_file new ≡ record { name = (output_file last).name; bytes = (output_file last).bytes ++ bytes }
        → AreLonger bytes (output_files outputs) (output_files (set outputs (n - 1) new))
    is_longer new bytes e = record {
      before = output_files (take (n - 1) outputs);
      last = output_file last;
      old_are = ap output_files parted ∙ map_push output_file (take (n - 1) outputs) last;
      new_are = ap output_files (changed new)
          ∙ (map_push output_file (take (n - 1) outputs) new
          ∙ ap (λ (f : File). output_files (take (n - 1) outputs) ++ f ∷ []) e);
    }

    pub is_same : (new : Output) → output_file new ≡ output_file last → output_files (set outputs (n - 1) new) ≡ output_files outputs
    is_same new e =
        ap output_files (changed new)
        ∙ (map_push output_file (take (n - 1) outputs) new
        ∙ (ap (λ (f : File). output_files (take (n - 1) outputs) ++ f ∷ []) e
        ∙ (sym (map_push output_file (take (n - 1) outputs) last) ∙ sym (ap output_files parted))))
