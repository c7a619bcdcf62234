use Rattle.policy_roots.proofs.Parsed.{nv_is_no_or, nv_is_no_pcr, or_is_no_pcr, same_index_handle, same_index_policy, same_nv_string, same_or_string, same_pcr_string}
use Rattle.policy_roots.proofs.laws.strings_differ.Goals as goal

pub returns-clause-or_is_no_pcr : goal.returns-clause-or_is_no_pcr
returns-clause-or_is_no_pcr c = λ hash bank before list pcrs values long e. or_is_no_pcr hash before list bank pcrs values long e

pub returns-clause-nv_is_no_pcr : goal.returns-clause-nv_is_no_pcr
returns-clause-nv_is_no_pcr c = λ hash bank before name pcrs values long e. nv_is_no_pcr hash before name bank pcrs values long e

pub returns-clause-nv_is_no_or : goal.returns-clause-nv_is_no_or
returns-clause-nv_is_no_or c = λ hash name list e. nv_is_no_or hash name list e

pub returns-clause-looks : goal.returns-clause-looks
returns-clause-looks c = λ hash bank other before after pcrs others seen values long e. same_pcr_string hash before after bank other pcrs others seen values long e

pub returns-clause-lists : goal.returns-clause-lists
returns-clause-lists c = λ hash some others a b e. same_or_string hash some others a b e

pub returns-clause-names : goal.returns-clause-names
returns-clause-names c = λ hash name other e. same_nv_string hash name other e

pub returns-clause-handles : goal.returns-clause-handles
returns-clause-handles c = λ some other small fits e. same_index_handle some other small fits e

pub returns-clause-policies : goal.returns-clause-policies
returns-clause-policies c = λ some other e. same_index_policy some other e
