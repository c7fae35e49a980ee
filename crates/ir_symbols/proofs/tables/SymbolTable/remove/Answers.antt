use Rattle.std.proofs.Common.{◌<◌, not, length, refl, rules, tests}
use Rattle.std.proofs.lemmas.Map.Made.{filter_same_pairs}
use Rattle.ir_symbols.proofs.Removed.{left_there, was_there, gets_shorter}
use Rattle.ir_symbols.proofs.Handles.{same}
use Rattle.ir_symbols.proofs.tables.SymbolTable.remove.Goals as goal

pub returns-clause-had : goal.returns-clause-had
returns-clause-had c =
    let kept = filter_same_pairs _ (λ e. not (same e.1 c.args.op)) _ (λ k v b w f' t. search (rules, tests)) _ _ c.retain.ensures.filtered in (
      λ h. let less : length c.retain.new.self.entries < length c.args.self.now.names.entries = search (rules, tests) in
          was_there c.args.self.now.names c.retain.new.self c.args.op c.retain.ensures.was_ordered kept less,
      λ e. let less : length c.retain.new.self.entries < length c.args.self.now.names.entries = gets_shorter c.args.self.now.names c.retain.new.self c.args.op c.retain.ensures.was_ordered kept e.0 e.1 in
          search (rules, tests),
    )

pub returns-clause-taken : goal.returns-clause-taken
returns-clause-taken c =
    let kept = filter_same_pairs _ (λ e. not (same e.1 c.args.op)) _ (λ k v b w f' t. search (rules, tests)) _ _ c.retain.ensures.filtered in
    record { of_same = record { op = refl; body = refl }; entries = left_there c.args.self.now.names c.retain.new.self c.args.op c.retain.ensures.was_ordered kept }
