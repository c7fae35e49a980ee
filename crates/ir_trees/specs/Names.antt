-- What stands in trees of operations: their names, and what is said at them.

-- by what operations, blocks and values are named: texts, handles, places, ..
pub record Names : Type 1 where
  pub operation : Type 0
  pub block : Type 0
  pub value : Type 0

-- what is said at operations, at blocks and at definitions of values: kind and attributes, attributes, types, ..
pub record Contents : Type 1 where
  pub of_operation : Type 0
  pub of_block : Type 0
  pub of_value : Type 0
