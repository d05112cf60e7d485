use Rattle.std.proofs.Common.{◌≡◌, ◌<◌, ◌^◌, ◌∙◌, length, map, ap, sym, arith}
use Rattle.std.proofs.lemmas.List.{length-map}
use Rattle.jls_partial.specs.Entries.{bare}
use Rattle.jls_partial.specs.Held.{kept_entry}
use Rattle.jls_partial.proofs.BareEntries.{few_entries}
use Rattle.jls_partial.proofs.Store.{are_entries, entries_there}
use Rattle.jls_partial.proofs.partial.Partial.entry_count.Goals as goal

pub count-requires : goal.count-requires
count-requires c =
    let es = c.self.inside.store.entries in
    let few : length (map bare (map kept_entry es)) < 2 ^ 32 =
    few_entries c.self.inside.shape (map bare (map kept_entry es)) c.ids.ensures.ranges
    (are_entries c.self.inside.shape es c.self.invariant.kept) in
    let same : length c.entries.result ≡ length es = ap length c.entries.ensures in
    omega (arith, few, same, length-map (map kept_entry es) bare, length-map es kept_entry)

pub returns : goal.returns
returns c =
    let es = c.self.inside.store.entries in
    c.count.ensures ∙ ap length c.entries.ensures ∙ sym (length-map es kept_entry)
    ∙ ap length (entries_there 0 0 c.self.inside.shape c.self.inside.store.entries c.self.invariant.kept c.args.self.now c.self.view_is)
