-- What the parts of bytes are, and what is told of what stops a mending. The numbers are those of include/jls_salvage.h; the rest is by hand.
use Rattle.std.proofs.Common.{◌≡◌, ℕ, true, List, [], ◌∷◌, None, Some, map, refl, lit<, lit≤}
use Rattle.jls_marker.specs.declared.fault.MarkerFault.TheVariants.{NoSoi}
use Rattle.jls_partial.specs.declared.text_fault.TextFault.TheVariants as text
use Rattle.jls_station.specs.declared.input.InputFault.TheVariants as input
use Rattle.jls_station.specs.declared.input.ReadStop.TheVariants.{Failed}
use Rattle.jls_cli.specs.declared.outcome.Cause.TheVariants.{NotOpened, Input, PartialPicture, NoPicture, NotRead, ShapeDiffers, Unsettled}
use Rattle.jls_cli.specs.declared.outcome.Cause.TheVariants.{TooLarge, NoList, NotCreated, NotWritten, FileNotCreated, FileNotWritten, OutOfMemory}
use Rattle.jls_mend.specs.declared.asking.MendOptions.{MendOptions}
use Rattle.jls_mend.specs.declared.mending.MendRefusal.{MendRefusal}
use Rattle.jls_c.specs.Causes.{cause_fault, cause_number, cause_offset, mend_answer, stopped_info}
use Rattle.jls_c.specs.Copies.{AreCopies, AreLists, listed, options_of, parted}
use Rattle.jls_c.specs.Mended.{flag}
use Rattle.jls_c.specs.declared.cause.JlsMendInfo.{JlsMendInfo}
use Rattle.jls_c.specs.declared.copies.JlsBadList.{JlsBadList}
use Rattle.jls_c.specs.declared.copies.JlsMendOptions.{JlsMendOptions}

-- Copies ---------------------------------------------------------------------------------------------------------

-- five bytes as copies of two, none and three
abbrev five : List ℕ
five = 10 ∷ 11 ∷ 12 ∷ 13 ∷ 14 ∷ []

abbrev sizes : List ℕ
sizes = 2 ∷ 0 ∷ 3 ∷ []

abbrev lists : List JlsBadList
lists = record { copy = 1; size = 3 } ∷ record { copy = 0; size = 2 } ∷ []

abbrev options : JlsMendOptions
options = record { tries = 9; source = 3; ceiling = 255; has_source = 1; has_ceiling = 0; files = 1 }

abbrev asked : MendOptions
asked = record { source = Some 3; tries = 9; ceiling = None; files = true }

record CopiesExamples : Type 0 where
  three : parted sizes five ≡ (10 ∷ 11 ∷ []) ∷ [] ∷ (12 ∷ 13 ∷ 14 ∷ []) ∷ []
  are : AreCopies options sizes five []
  -- and of one copy with a list
  one_is : AreCopies options (5 ∷ []) five lists
  -- lists of the second copy and of the first
  lists_are : AreLists 2 lists five
  listed_are : listed lists five
      ≡ record { copy = 1; text = 10 ∷ 11 ∷ 12 ∷ [] } ∷ record { copy = 0; text = 13 ∷ 14 ∷ [] } ∷ []
  -- what counts is what a flag says is given
  options_are : options_of options ≡ asked

copies_examples : CopiesExamples
copies_examples = record {
  three = refl;
  are = record { sizes_add_up = refl; some = lit≤ tt; without_lists = λ _. lit≤ tt; tries = lit≤ tt };
  one_is = record { sizes_add_up = refl; some = lit≤ tt; without_lists = λ none. absurd cc; tries = lit≤ tt };
  lists_are = record {
    sizes_add_up = refl;
    of_copies = (record { has = lit< tt; taken = lit< tt }, (record { has = lit< tt; taken = lit< tt }, tt));
  };
  listed_are = refl;
  options_are = refl;
}

-- Causes ---------------------------------------------------------------------------------------------------------

-- a copy, the second, that is no partial picture, though it begins as one
abbrev refusal : MendRefusal
refusal = record { cause = Input (input.Text (text.Order 9)); copy = Some 1; list = None }

abbrev told : JlsMendInfo
told = record {
  bytes = 0;
  outputs = 0;
  lines = 0;
  copy = 1;
  offset = 9;
  has_copy = 1;
  cause = 2;
  fault = 25;
  has_file = 0;
  is_promised = 0;
  is_whole = 0;
  has_list = 0;
  list = 0;
  line = 0;
}

-- a list, the third, that is none by its seventh line
abbrev no_list : MendRefusal
no_list = record { cause = NoList 7; copy = None; list = Some 2 }

abbrev told_of_list : JlsMendInfo
told_of_list = record {
  bytes = 0;
  outputs = 0;
  lines = 0;
  copy = 0;
  offset = 0;
  has_copy = 0;
  cause = 9;
  fault = 0;
  has_file = 0;
  is_promised = 0;
  is_whole = 0;
  has_list = 1;
  list = 2;
  line = 7;
}

record CauseExamples : Type 0 where
  numbers : map cause_number (NotOpened ∷ Input input.OutOfMemory ∷ PartialPicture ∷ NoPicture NoSoi 3 ∷ NotRead ∷ ShapeDiffers
      ∷ Unsettled 1 2 true ∷ TooLarge ∷ NoList 3 ∷ OutOfMemory ∷ [])
      ≡ 1 ∷ 2 ∷ 3 ∷ 4 ∷ 5 ∷ 6 ∷ 7 ∷ 8 ∷ 9 ∷ 0 ∷ []
  -- JLS_FAULT_NO_SOI at 3, and JLS_FAULT_TEXT_ORDER at 9
  no_picture : cause_fault (NoPicture NoSoi 3) ∷ cause_offset (NoPicture NoSoi 3) ∷ [] ≡ 18 ∷ 3 ∷ []
  order : stopped_info refusal ≡ told
  list : stopped_info no_list ≡ told_of_list
  -- JLS_NOT_MENDED
  stopped : map mend_answer (PartialPicture ∷ NoPicture NoSoi 3 ∷ NotRead ∷ ShapeDiffers ∷ Input (input.Text (text.Order 9))
      ∷ Input (input.Read Failed 7) ∷ [])
      ≡ 15 ∷ 15 ∷ 15 ∷ 15 ∷ 15 ∷ 15 ∷ []
  -- JLS_OUT_OF_MEMORY
  no_memory : map mend_answer (OutOfMemory ∷ NotCreated ∷ NotWritten 5 ∷ FileNotCreated 1 ∷ FileNotWritten 1 5 ∷ Input input.OutOfMemory
      ∷ Input (input.Text text.OutOfMemory) ∷ [])
      ≡ 1 ∷ 1 ∷ 1 ∷ 1 ∷ 1 ∷ 1 ∷ 1 ∷ []
  promised : flag true ≡ 1

cause_examples : CauseExamples
cause_examples = record {
  numbers = refl;
  no_picture = refl;
  order = refl;
  list = refl;
  stopped = refl;
  no_memory = refl;
  promised = refl;
}
