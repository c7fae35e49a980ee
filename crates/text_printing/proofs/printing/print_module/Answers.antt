use Rattle.std.proofs.Common.{◌≡◌, ◌<◌, ◌^◌, ◌∷◌, ◌++◌, [], ℕ, List, String, IsUtf8, chars, length, sym, subst, arith}
use Rattle.std.specs.String.{string_bytes}
use Rattle.ir_rereading.specs.Texts.{Says}
use Rattle.text_dialect.specs.Seen.{seen}
use Rattle.text_rereading.specs.Rereading.{IsPrinted}
use Rattle.text_printing.proofs.printing.print_module.Goals as goal

-- a string has fewer than 2^63 bytes
string_few : {A : Type 0} (s : String A) → length (string_bytes s) < 2 ^ 63
string_few s = let few = s.bytes.small in let many = s.bytes.ok.0 in omega (arith, few, many)

pub returns-clause-again : goal.returns-clause-again
returns-clause-again g c = λ l can formats grammar known numbering tree stands closed numbered.
    let d = g.D.TextDialect in
    let law = c.printed_modules_are_read_again.ensures in
    let s = seen c.args.ctx.now in
    let front : List ℕ = string_bytes c.in_ok-text.text in
    let ends : string_bytes c.push_str.new.self ≡ front ++ 10 ∷ [] = c.in_ok-push_str.ensures.bytes in
    let printed : IsPrinted d.formats d.says s c.args.root front = c.in_ok-text.ensures.text in
    let few : length (front ++ 10 ∷ []) < 2 ^ 63 =
    subst (λ cs. length cs < 2 ^ 63) ends (string_few c.push_str.new.self) in
    let places = c.know_places.ensures in
    let small = c.know_small_numbers.ensures in
    let bytes = law.bytes l can formats s places numbering c.args.root tree front stands small closed printed in
    let read =
    law.read l can formats grammar known s places numbering c.args.root tree front stands small closed numbered printed
    few in
    record {
      utf8 = subst IsUtf8 (sym ends) bytes;
      again = read.0;
      says = subst (λ cs. Says l (chars cs) read.0) (sym ends) read.1;
      same = read.2;
    }
