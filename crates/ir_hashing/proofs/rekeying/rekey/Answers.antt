use Rattle.std.proofs.Common.{[], ap, ◌∙◌}
use Rattle.indexmap.specs.IndexSet.{insert_all}
use Rattle.ir_hashing.proofs.Rekeyed.{all_put}
use Rattle.ir_hashing.proofs.rekeying.rekey.Goals as goal

pub returns-clause-keys : goal.returns-clause-keys
returns-clause-keys g c = c.in_ok-append.ensures.keys ∙ (ap (λ ks. insert_all g.K.PartialEq.eq ks c.args.table.now.keys) c.in_ok-fresh.ensures.empty ∙ all_put g.K.PartialEq.eq g.met.K.Eq.laws [] c.args.table.now.keys c.len.ensures.unique)
