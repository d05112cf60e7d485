use Rattle.jls_marker.specs.declared.profile.Profile.TheVariants.{Wide}
use Rattle.jls_splice_laws.proofs.Searching.{searches_find_splices, searches_lose_nothing}
use Rattle.jls_splice_laws.proofs.searches.searches_lose_nothing.Goals as goal

pub returns-clause-splices : goal.returns-clause-splices
returns-clause-splices c = searches_find_splices c.splices_are_listed.ensures

pub returns-clause-all : goal.returns-clause-all
returns-clause-all c =
    searches_lose_nothing c.splices_are_listed.ensures (c.prefixes_stay_broken_under.ensures Wide) (c.final_ends_stay_under.ensures Wide)
