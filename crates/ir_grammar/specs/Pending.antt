-- What is still to be read.
use Rattle.std.specs.Prelude.{List, ◌++◌, reverse, flat_map}
use Rattle.ir_grammar.specs.declared.grammar.Symbol.{Symbol}
use Rattle.ir_grammar.specs.declared.pending.Pending.{Pending}

-- the symbols to read, the next one first: the rest of the body that is being read, then the rests of those around it, inner ones first
abbrev pub unread : Pending → List Symbol
unread p = p.rest.now ++ flat_map (λ body. body.now) (reverse p.around.items)
