use Rattle.std.proofs.Common.{◌≡◌, ℕ, ◌<◌, ◌≤◌, List, true, false, Some, Option, arith}
use Rattle.std.specs.Prelude.{IfSome}
use Rattle.std.specs.List.{AllByRecursion}
use Rattle.jls_search.specs.Choices.{prefix_of}
use Rattle.jls_search.specs.ReadsBetween.{ReadsBetween}
use Rattle.jls_search.proofs.EarlyReads.{if_ok, read_early, unread_early}
use Rattle.jls_marker.specs.declared.profile.Profile.TheVariants.{Wide}
use Rattle.jls_search.proofs.reading_group.told_early.Goals as goal

pub returns : goal.returns
returns c =
    let from = c.args.from in
    let to = c.args.to in
    let file : List ℕ = prefix_of c.args.parts.now c.args.path.now in
    let reader : Option (List ℕ) = c.feed_path_until.new.reader in
    let settle = c.prefixes_settle_pieces_under.ensures Wide in
    let some_course = c.every_copy_has_a_course_under.ensures Wide in
    let n = c.max.ensures in
    let from_low : from ≤ c.max.result = omega (arith, n) in
    let to_low : to ≤ c.max.result = omega (arith, n) in
    record {
      reads =
          if_ok c.told_by.result (λ told. told ≡ Some true → IfSome reader (λ begin. ReadsBetween from (Some to) begin))
          (λ told. told ≡ Some true → ReadsBetween from (Some to) file)
          (λ told h e. read_early settle some_course from to c.max.result from_low to_low
          file c.makes_bytes.ensures reader _ c.in_ok-feed_path_until.ensures (h e)) c.told_by.ensures.reads;
      unread =
          if_ok c.told_by.result
          (λ told. told ≡ Some false → IfSome reader (λ begin. AllByRecursion (λ b. b < 256) begin → ReadsBetween from (Some to) begin → ⊥))
          (λ told. told ≡ Some false → ReadsBetween from (Some to) file → ⊥)
          (λ told h e. unread_early settle some_course from to c.max.result from_low to_low
          file c.makes_bytes.ensures reader _ c.in_ok-feed_path_until.ensures (h e)) c.told_by.ensures.unread;
    }
