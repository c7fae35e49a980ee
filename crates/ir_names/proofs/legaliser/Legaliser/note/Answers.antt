use Rattle.std.proofs.Common.{◌≡◌, ◌∙◌, ap, List, String, None, false, subst, sym}
use Rattle.std.specs.Global.{Global}
use Rattle.std.specs.String.{string_bytes, string_eq}
use Rattle.std.specs.Prelude.{bytes_eq}
use Rattle.indexmap.specs.IndexSet.{insert_key}
use Rattle.ir_names.specs.declared.identifier.Identifier.{Identifier}
use Rattle.ir_names.specs.Identifier.{text_of}
use Rattle.ir_names.specs.Legaliser.{Given, Legalised, name_of, is_taken}
use Rattle.ir_names.specs.Paired.{paired}
use Rattle.ir_names.proofs.Legalised.{noted, noted_length, noted_one}
use Rattle.ir_names.proofs.legaliser.Legaliser.note.Goals as goal

pub invariant_of-self-2 : goal.invariant_of-self-2
invariant_of-self-2 c =
    let ss = c.self.inside.sources.keys in
    let ns = c.self.inside.names.keys in
    let same = c.self.invariant.0 in
    let sources : c.insert.new.self.keys ≡ insert_key string_eq ss c.args.source = c.in_ok-insert.ensures.keys ∙ ap (λ (xs : List (String Global)). insert_key string_eq xs c.args.source) c.reserve.ensures.keys in
    let names : c.insert-2.new.self.keys ≡ insert_key (λ a b. bytes_eq (text_of a) (text_of b)) ns c.args.name = c.in_ok-insert-2.ensures.keys ∙ ap (λ (xs : List Identifier). insert_key (λ a b. bytes_eq (text_of a) (text_of b)) xs c.args.name) c.reserve-2.ensures.keys in
    let new : name_of (paired ss ns) (string_bytes c.args.source) ≡ None = subst (λ (l : Legalised). name_of l.given (string_bytes c.args.source) ≡ None) (sym c.self.view_is) c.requires.new in
    let free : is_taken (paired ss ns) (text_of c.args.name) ≡ false = subst (λ (l : Legalised). is_taken l.given (text_of c.args.name) ≡ false) (sym c.self.view_is) c.requires.free in
    (noted_length ss ns same c.args.source c.args.name new free c.insert.new.self.keys c.insert-2.new.self.keys sources names, noted_one ss ns same c.args.source c.args.name new free c.insert.new.self.keys c.insert-2.new.self.keys sources names c.self.invariant.1)

pub returns-clause-ok : goal.returns-clause-ok
returns-clause-ok c =
    let ss = c.self.inside.sources.keys in
    let ns = c.self.inside.names.keys in
    let same = c.self.invariant.0 in
    let sources : c.insert.new.self.keys ≡ insert_key string_eq ss c.args.source = c.in_ok-insert.ensures.keys ∙ ap (λ (xs : List (String Global)). insert_key string_eq xs c.args.source) c.reserve.ensures.keys in
    let names : c.insert-2.new.self.keys ≡ insert_key (λ a b. bytes_eq (text_of a) (text_of b)) ns c.args.name = c.in_ok-insert-2.ensures.keys ∙ ap (λ (xs : List Identifier). insert_key (λ a b. bytes_eq (text_of a) (text_of b)) xs c.args.name) c.reserve-2.ensures.keys in
    let new : name_of (paired ss ns) (string_bytes c.args.source) ≡ None = subst (λ (l : Legalised). name_of l.given (string_bytes c.args.source) ≡ None) (sym c.self.view_is) c.requires.new in
    let free : is_taken (paired ss ns) (text_of c.args.name) ≡ false = subst (λ (l : Legalised). is_taken l.given (text_of c.args.name) ≡ false) (sym c.self.view_is) c.requires.free in
    rw (← c.self.view_is) (ap (λ (given : List Given). record { given = given; counter = c.self.inside.counter }) (noted ss ns same c.args.source c.args.name new free c.insert.new.self.keys c.insert-2.new.self.keys sources names))
