-- What a forest ends as, where a `&mut` to the data of an operation or a block is returned.
use Rattle.std.specs.Borrow.{Lends, Fml, RattleType, MutBor}
use Rattle.ir_arena.specs.declared.arena.Key.{Key}
use Rattle.ir_entities.specs.contracts.forest.Forest.{the_row}
use Rattle.ir_arena.specs.Lends.{with_value}
use Rattle.ir_entities.specs.Forest.{Forest}

module _ (O B R : RattleType) where
  -- nothing changes but the data of operation p
  abbrev pub lends_op : MutBor (Forest O.Denot B.Denot R.Denot) → Key → MutBor O.Denot → Fml
  lends_op s p r = Lends (the_row O B R) O s r (λ w. record s.now { ops = with_value s.now.ops p w })

  -- nothing changes but the data of block p
  abbrev pub lends_block : MutBor (Forest O.Denot B.Denot R.Denot) → Key → MutBor B.Denot → Fml
  lends_block s p r = Lends (the_row O B R) B s r (λ w. record s.now { blocks = with_value s.now.blocks p w })
