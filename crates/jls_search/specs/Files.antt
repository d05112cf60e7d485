-- The files taken: the copies in their order, then the splices that a search found; and the verdict on each file.
use Rattle.std.specs.Prelude.{ℕ, Bool, List, [], ◌∷◌, ◌++◌, ◌↔◌, IsTrue}
use Rattle.jls_diff.specs.PartsOf.{bytes_of}
use Rattle.jls_search.specs.Faultless.{IsFaultless}
use Rattle.jls_search.specs.Search.{files_of, lists_of}
use Rattle.jls_search.specs.declared.files.Files.{Files}

-- the splices that a search found
abbrev pub splices_found : Files → List (List ℕ)
splices_found files = files_of files.parts.now (lists_of files.splices.now)

-- the files taken: the copies in their order, then the splices that a search found
abbrev pub files_taken : Files → List (List ℕ)
files_taken files = bytes_of files.copies.now ++ splices_found files

-- of each file in turn, whether it has no fault
abbrev pub AreVerdicts : List (List ℕ) → List Bool → Type 0
AreVerdicts [] [] = Unit {0}
AreVerdicts (file ∷ files) (verdict ∷ more) = (IsTrue verdict ↔ IsFaultless file) × AreVerdicts files more
AreVerdicts _ _ = ⊥
