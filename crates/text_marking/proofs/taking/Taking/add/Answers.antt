use Rattle.std.proofs.Common.{◌≡◌, ◌+◌, ℕ, [], ◌∷◌, ◌++◌, Option, true, false, sym, ◌∙◌, ap, refl}
use Rattle.ir_characters.specs.Texts.{codes_of}
use Rattle.text_marking.specs.declared.taking.Mark.{Mark}
use Rattle.std.specs.Prelude.{slice_range}
use Rattle.text_marking.specs.Marks.{is_mark, mark_of, number_in_64_bits}
use Rattle.text_marking.proofs.Steps.{mark_digits, taken_mark, taken_other}
use Rattle.text_marking.proofs.taking.Taking.add.Goals as goal

pub returns-then-not-is_mark-clause-taken : goal.returns-then-not-is_mark-clause-taken
returns-then-not-is_mark-clause-taken c = λ ts h.
    let other : is_mark c.args.token.kind ≡ false = sym c.if-not-is_mark.ensures in
    taken_other (codes_of c.args.text) ts c.args.token _ _ other refl refl h

pub number_of-requires : goal.number_of-requires
number_of-requires c =
    let marked : is_mark c.args.token.kind ≡ true = sym c.if-not-is_mark.ensures in
    mark_digits (codes_of c.args.text) c.args.token _ marked c.requires.token c.slice.ensures

pub returns-clause-taken : goal.returns-clause-taken
returns-clause-taken c = λ ts h.
    let marked : is_mark c.args.token.kind ≡ true = sym c.if-not-is_mark.ensures in
    let mark : Option ℕ → Mark = λ n. record { start = c.args.token.start; number = n; tokens_before = c.args.self.now.others } in
    let number : c.number_of.result ≡ number_in_64_bits (slice_range (codes_of c.args.text) (c.args.token.start + 1) c.args.token.end) =
    c.number_of.ensures ∙ ap number_in_64_bits c.slice.ensures in
    let marks : c.push.new.self.items ≡ c.args.self.now.taken.marks.items ++ mark_of (codes_of c.args.text) c.args.self.now.others c.args.token ∷ [] =
    c.in_ok-push.ensures.items ∙ ap (λ (n : Option ℕ). c.args.self.now.taken.marks.items ++ mark n ∷ []) number in
    taken_mark (codes_of c.args.text) ts c.args.token _ _ marked c.requires.token c.blank.ensures marks refl h
