-- What was read is shown, once it stands in the buffers.
use Rattle.std.proofs.Common.{◌≡◌, ℕ, ◌≤◌, List, ◌++◌, length, drop, ap, sym, ◌∙◌, arith}
use Rattle.jls_copy.specs.ReadCopy.{ReadCopy}
use Rattle.jls_c.specs.Answers.{IsShown}
use Rattle.jls_c.specs.Info.{info_of, line_count, sample_count}
use Rattle.jls_c.specs.Lines.{line_statuses, shown_picture}
use Rattle.jls_c.specs.declared.info.JlsInfo.{JlsInfo}
use Rattle.jls_c.proofs.Shown.{length_statuses}

pub is_shown : (read : ReadCopy) (info : JlsInfo) (m : ℕ) (old_samples put old_statuses found : List ℕ) → info ≡ info_of read
    → put ≡ shown_picture read.partial → length put ≡ sample_count read.partial.shape → found ≡ line_statuses read.partial
    → m ≡ length found → info.samples ≤ length old_samples → m ≤ length old_statuses
    → IsShown read info old_samples (put ++ drop info.samples old_samples) old_statuses (found ++ drop m old_statuses)
is_shown read info m old_samples put old_statuses found is put_is long found_is many samples_fit statuses_fit =
    let all : info.samples ≡ sample_count read.partial.shape = ap (λ (i : JlsInfo). i.samples) is in
    let lines : length found ≡ line_count read.partial.shape = ap length found_is ∙ length_statuses read.partial in
    record {
      info_is = is;
      samples_fit = omega (arith, all, samples_fit);
      statuses_fit = omega (arith, lines, many, statuses_fit);
      samples_are = ap (λ t. t ++ drop info.samples old_samples) put_is
          ∙ ap (λ n. shown_picture read.partial ++ drop n old_samples) (all ∙ (sym long ∙ ap length put_is));
      statuses_are = ap (λ t. t ++ drop m old_statuses) found_is
          ∙ ap (λ n. line_statuses read.partial ++ drop n old_statuses) (many ∙ ap length found_is);
    }
