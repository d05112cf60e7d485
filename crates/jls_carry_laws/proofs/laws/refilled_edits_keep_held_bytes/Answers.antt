use Rattle.jls_carry_laws.proofs.EditedFiles as edited_files
use Rattle.jls_carry_laws.proofs.laws.refilled_edits_keep_held_bytes.Goals as goal

pub returns-clause-one : goal.returns-clause-one
returns-clause-one c = edited_files.refilled_edits_keep

pub returns-clause-either : goal.returns-clause-either
returns-clause-either c = edited_files.bytes_are_held_by_either
