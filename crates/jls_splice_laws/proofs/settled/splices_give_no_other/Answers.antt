use Rattle.jls_splice_laws.proofs.TakenFiles.{searched_splices_give_no_other, splices_give_no_other, whole_splices_give_no_other}
use Rattle.jls_splice_laws.proofs.settled.splices_give_no_other.Goals as goal

pub returns-clause-surviving : goal.returns-clause-surviving
returns-clause-surviving c = splices_give_no_other c.never_another_picture.ensures c.same_copies_give_the_picture.ensures.same

pub returns-clause-all : goal.returns-clause-all
returns-clause-all c = whole_splices_give_no_other c.never_another_picture.ensures

pub returns-clause-searched : goal.returns-clause-searched
returns-clause-searched c = searched_splices_give_no_other c.searches_come_to_each_splice.ensures c.never_another_picture.ensures
