-- Operations kept in lists: how many there are, what is said of each, and one more.
use Rattle.std.proofs.Common.{◌≡◌, ℕ, zero, suc, ◌+◌, ◌-◌, ◌<◌, ◌≤◌, Bool, List, [], ◌∷◌, ◌++◌, take, drop, length, get_or, map, refl, sym, ap, ◌∙◌, subst, arith, Option, Some, None, true, false}
use Rattle.std.specs.Prelude.{slice_get, is_some, unwrap_or}
use Rattle.opt_rows.specs.declared.dead_problem.Operand.{Operand}
use Rattle.opt_rows.specs.Rows.{rows_from, row_at, start_from, AreEnds}
use Rattle.opt_rows.specs.DeadCandidates.{Candidate, may_go_of, around_of, operands_of, all_operands, operands_before, candidates_of, around_if, arounds_of, AreColumns}
use Rattle.std.proofs.lemmas.List.{length-append, length-drop, length-take-le, take-append-drop, drop-drop}
use Rattle.opt_rows.proofs.Rows.{ends_rise, read_there, start_is, as_many, row_bounds, row_found, ends_more, row_more}

count_is : (ms : List Bool) (os : List (Option ℕ)) (rows : List (List Operand)) → length os ≡ length ms → length rows ≡ length ms → length (candidates_of ms os rows) ≡ length ms
count_is [] os rows a r = refl
count_is (m ∷ ms) [] rows a r = absurd (omega (arith, a))
count_is (m ∷ ms) (x ∷ os) [] a r = absurd (omega (arith, r))
count_is (m ∷ ms) (x ∷ os) (row ∷ rows) a r = let h = count_is ms os rows (omega (arith, a)) (omega (arith, r)) in omega (arith, h)

may_go_is : (ms : List Bool) (os : List (Option ℕ)) (rows : List (List Operand)) → length os ≡ length ms → length rows ≡ length ms → map may_go_of (candidates_of ms os rows) ≡ ms
may_go_is [] os rows a r = refl
may_go_is (m ∷ ms) [] rows a r = absurd (omega (arith, a))
may_go_is (m ∷ ms) (x ∷ os) [] a r = absurd (omega (arith, r))
may_go_is (m ∷ ms) (x ∷ os) (row ∷ rows) a r = ap (λ (ns : List Bool). m ∷ ns) (may_go_is ms os rows (omega (arith, a)) (omega (arith, r)))

around_is : (ms : List Bool) (os : List (Option ℕ)) (rows : List (List Operand)) (i : ℕ) (o : Option ℕ) → length os ≡ length ms → length rows ≡ length ms → i < length ms → o ≡ get_or os i o → o ≡ around_of (slice_get (candidates_of ms os rows) i)
around_is [] os rows i o a r h e = absurd (omega (arith, h))
around_is (m ∷ ms) [] rows i o a r h e = absurd (omega (arith, a))
around_is (m ∷ ms) (x ∷ os) [] i o a r h e = absurd (omega (arith, r))
around_is (m ∷ ms) (x ∷ os) (row ∷ rows) zero o a r h e = e
around_is (m ∷ ms) (x ∷ os) (row ∷ rows) (suc i) o a r h e = around_is ms os rows i o (omega (arith, a)) (omega (arith, r)) (omega (arith, h)) e

operands_are : (ms : List Bool) (os : List (Option ℕ)) (rows : List (List Operand)) (i : ℕ) → length os ≡ length ms → length rows ≡ length ms → row_at rows i ≡ operands_of (slice_get (candidates_of ms os rows) i)
operands_are [] os [] i a r = refl
operands_are [] os (row ∷ rows) i a r = absurd (omega (arith, r))
operands_are (m ∷ ms) [] rows i a r = absurd (omega (arith, a))
operands_are (m ∷ ms) (x ∷ os) [] i a r = absurd (omega (arith, r))
operands_are (m ∷ ms) (x ∷ os) (row ∷ rows) zero a r = refl
operands_are (m ∷ ms) (x ∷ os) (row ∷ rows) (suc i) a r = operands_are ms os rows i (omega (arith, a)) (omega (arith, r))

-- the rows of all operations together
all_are : (low : ℕ) (ms : List Bool) (os : List (Option ℕ)) (es : List ℕ) (xs : List Operand) → length os ≡ length ms → length es ≡ length ms → AreEnds low es (length xs) → all_operands (candidates_of ms os (rows_from low es xs)) ≡ drop low xs
all_are low [] os [] xs a r e = sym (past low xs (omega (arith, e)))
  where
    past : (low : ℕ) (xs : List Operand) → length xs ≤ low → drop low xs ≡ []
    past zero [] h = refl
    past zero (x ∷ xs) h = absurd (omega (arith, h))
    past (suc low) [] h = refl
    past (suc low) (x ∷ xs) h = past low xs (omega (arith, h))
all_are low [] os (end ∷ es) xs a r e = absurd (omega (arith, r))
all_are low (m ∷ ms) [] es xs a r e = absurd (omega (arith, a))
all_are low (m ∷ ms) (o ∷ os) [] xs a r e = absurd (omega (arith, r))
all_are low (m ∷ ms) (o ∷ os) (end ∷ es) xs a r e =
    let h = e.0 in let n : low + (end - low) ≡ end = omega (arith, h) in
    ap (λ (ys : List Operand). take (end - low) (drop low xs) ++ ys) (all_are end ms os es xs (omega (arith, a)) (omega (arith, r)) e.1 ∙ ap (λ k. drop k xs) (sym n) ∙ sym (drop-drop (end - low) low xs))
    ∙ take-append-drop (end - low) (drop low xs)

before_is : (low : ℕ) (ms : List Bool) (os : List (Option ℕ)) (es : List ℕ) (xs : List Operand) (i : ℕ) → length os ≡ length ms → length es ≡ length ms → AreEnds low es (length xs) → i ≤ length ms
    → operands_before (candidates_of ms os (rows_from low es xs)) i + low ≡ start_from low es i
before_is low ms os es xs zero a r e h = omega arith
before_is low [] os es xs (suc i) a r e h = absurd (omega (arith, h))
before_is low (m ∷ ms) [] es xs (suc i) a r e h = absurd (omega (arith, a))
before_is low (m ∷ ms) (o ∷ os) [] xs (suc i) a r e h = absurd (omega (arith, r))
before_is low (m ∷ ms) (o ∷ os) (end ∷ es) xs (suc i) a r e h =
    let k = before_is end ms os es xs i (omega (arith, a)) (omega (arith, r)) e.1 (omega (arith, h)) in
    let f = e.0 in let g = ends_rise end es (length xs) e.1 in let d = length-drop low xs in
    let t = length-take-le (end - low) (drop low xs) (omega (arith, f, g, d)) in
    omega (arith, k, f, t)

one_more : (ms : List Bool) (os : List (Option ℕ)) (rows : List (List Operand)) (m : Bool) (o : Option ℕ) (row : List Operand) → length os ≡ length ms → length rows ≡ length ms
    → candidates_of (ms ++ m ∷ []) (os ++ o ∷ []) (rows ++ row ∷ []) ≡ candidates_of ms os rows ++ record { may_go = m; around = o; operands = row } ∷ []
one_more [] [] [] m o row a r = refl
one_more [] [] (first ∷ rows) m o row a r = absurd (omega (arith, r))
one_more [] (x ∷ os) rows m o row a r = absurd (omega (arith, a))
one_more (n ∷ ms) [] rows m o row a r = absurd (omega (arith, a))
one_more (n ∷ ms) (x ∷ os) [] m o row a r = absurd (omega (arith, r))
one_more (n ∷ ms) (x ∷ os) (first ∷ rows) m o row a r = ap (λ (cs : List Candidate). record { may_go = n; around = x; operands = first } ∷ cs) (one_more ms os rows m o row (omega (arith, a)) (omega (arith, r)))

arounds_len : (bs : List Bool) (ns : List ℕ) → length ns ≡ length bs → length (arounds_of bs ns) ≡ length bs
arounds_len [] ns h = refl
arounds_len (b ∷ bs) [] h = absurd (omega (arith, h))
arounds_len (b ∷ bs) (n ∷ ns) h = ap suc (arounds_len bs ns (omega (arith, h)))

arounds_more : (bs : List Bool) (ns : List ℕ) (b : Bool) (n : ℕ) → length ns ≡ length bs → arounds_of (bs ++ b ∷ []) (ns ++ n ∷ []) ≡ arounds_of bs ns ++ around_if b n ∷ []
arounds_more [] [] b n h = refl
arounds_more [] (m ∷ ns) b n h = absurd (omega (arith, h))
arounds_more (a ∷ bs) [] b n h = absurd (omega (arith, h))
arounds_more (a ∷ bs) (m ∷ ns) b n h = ap (λ (os : List (Option ℕ)). around_if a m ∷ os) (arounds_more bs ns b n (omega (arith, h)))

around_read : (bs : List Bool) (ns : List ℕ) (i : ℕ) (b : Bool) (n : ℕ) → length ns ≡ length bs → i < length bs → b ≡ get_or bs i b → (b ≡ true → n ≡ get_or ns i n) → around_if b n ≡ get_or (arounds_of bs ns) i (around_if b n)
around_read [] ns i b n l h e f = absurd (omega (arith, h))
around_read (a ∷ bs) [] i b n l h e f = absurd (omega (arith, l))
around_read (true ∷ bs) (m ∷ ns) zero b n l h e f = ap (λ c. around_if c n) e ∙ ap Some (f e)
around_read (false ∷ bs) (m ∷ ns) zero b n l h e f = ap (λ c. around_if c n) e
around_read (a ∷ bs) (m ∷ ns) (suc i) b n l h e f = around_read bs ns i b n (omega (arith, l)) (omega (arith, h)) e f

pub around_whole : (o : Option ℕ) → around_if (is_some o) (unwrap_or o 0) ≡ o
around_whole None = refl
around_whole (Some n) = refl

-- no operation
module _ (ms bs : List Bool) (ns es : List ℕ) (xs : List Operand) (may_go : ms ≡ []) (insides : bs ≡ []) (arounds : ns ≡ []) (ends : es ≡ []) (operands : xs ≡ []) where
  pub no_columns : AreColumns ms bs ns es xs
  no_columns = record {
    insides = ap length insides ∙ sym (ap length may_go);
    arounds = ap length arounds ∙ sym (ap length may_go);
    rows = ap length ends ∙ sym (ap length may_go);
    are_ends = subst (λ (zs : List ℕ). AreEnds 0 zs (length xs)) (sym ends) (sym (ap length operands));
  }

  pub no_candidates : candidates_of ms (arounds_of bs ns) (rows_from 0 es xs) ≡ []
  no_candidates = ap (λ (zs : List Bool). candidates_of zs (arounds_of bs ns) (rows_from 0 es xs)) may_go

module _ (ms bs : List Bool) (ns es : List ℕ) (xs : List Operand) (columns : AreColumns ms bs ns es xs) where
  abbrev os : List (Option ℕ)
  os = arounds_of bs ns

  as_long : length ns ≡ length bs
  as_long = columns.arounds ∙ sym columns.insides

  arounds_are : length os ≡ length ms
  arounds_are = arounds_len bs ns as_long ∙ columns.insides

  rows_len : length (rows_from 0 es xs) ≡ length ms
  rows_len = as_many 0 es xs ∙ columns.rows

  module _ (cs : List Candidate) (view : candidates_of ms os (rows_from 0 es xs) ≡ cs) where
    pub columns_len : length ms ≡ length cs
    columns_len = sym (count_is ms os (rows_from 0 es xs) arounds_are rows_len) ∙ ap (λ (ds : List Candidate). length ds) view

    pub columns_may_go : ms ≡ map may_go_of cs
    columns_may_go = sym (may_go_is ms os (rows_from 0 es xs) arounds_are rows_len) ∙ ap (map may_go_of) view

    pub columns_around : (i : ℕ) (b : Bool) (n : ℕ) → i < length cs → b ≡ get_or bs i b → (b ≡ true → n ≡ get_or ns i n) → around_if b n ≡ around_of (slice_get cs i)
    columns_around i b n h e f =
        let l = columns_len in let m = columns.insides in
        around_is ms os (rows_from 0 es xs) i (around_if b n) arounds_are rows_len (omega (arith, h, l)) (around_read bs ns i b n as_long (omega (arith, h, l, m)) e f) ∙ ap (λ (ds : List Candidate). around_of (slice_get ds i)) view

    operands_there : (i : ℕ) → i < length cs → i < length (rows_from 0 es xs)
    operands_there i h = let l = columns_len in let m = rows_len in omega (arith, h, l, m)

    module _ (i : ℕ) (h : i < length cs) (fs : List ℕ) (start e : ℕ) (ends : fs ≡ es) (begins : start ≡ start_from 0 fs i) (stops : e ≡ get_or es i e) where
      pub columns_bounds : (start ≤ e) × (e ≤ length xs)
      columns_bounds = row_bounds (rows_from 0 es xs) es fs xs i start e refl (operands_there i h) columns.are_ends ends begins stops

      pub columns_operands : (ys : List Operand) → ys ≡ xs → take (e - start) (drop start ys) ≡ operands_of (slice_get cs i)
      columns_operands ys q =
          row_found (rows_from 0 es xs) es fs xs ys i start e refl (operands_there i h) ends begins stops q
          ∙ operands_are ms os (rows_from 0 es xs) i arounds_are rows_len
          ∙ ap (λ (ds : List Candidate). operands_of (slice_get ds i)) view

    pub columns_all : xs ≡ all_operands cs
    columns_all = sym (all_are 0 ms os es xs arounds_are columns.rows columns.are_ends) ∙ ap all_operands view

    pub columns_before : (i : ℕ) → i ≤ length cs → start_from 0 es i ≡ operands_before cs i
    columns_before i h =
        let l = columns_len in let b = before_is 0 ms os es xs i arounds_are columns.rows columns.are_ends (omega (arith, h, l)) in
        let v = ap (λ (ds : List Candidate). operands_before ds i) view in omega (arith, b, v)

    -- before an operation are those up to where the one before it ends
    pub columns_last : (i j e : ℕ) → i ≤ length cs → 1 ≤ i → j ≡ i - 1 → e ≡ get_or es j e → e ≡ operands_before cs i
    columns_last i j e h f q g =
        let l = columns_len in let r = columns.rows in let b : j < length es = omega (arith, h, f, q, l, r) in let n : suc j ≡ i = omega (arith, f, q) in
        read_there es j e b g ∙ sym (start_is 0 es j b) ∙ ap (start_from 0 es) n ∙ columns_before i h

  -- lists that stay say the same
  module _ (fresh_ms fresh_bs : List Bool) (fresh_ns fs : List ℕ) (ys : List Operand) (may_go : fresh_ms ≡ ms) (insides : fresh_bs ≡ bs) (arounds : fresh_ns ≡ ns) (ends : fs ≡ es) (operands : ys ≡ xs) where
    pub columns_stay : AreColumns fresh_ms fresh_bs fresh_ns fs ys
    columns_stay = record {
      insides = ap length insides ∙ columns.insides ∙ sym (ap length may_go);
      arounds = ap length arounds ∙ columns.arounds ∙ sym (ap length may_go);
      rows = ap length ends ∙ columns.rows ∙ sym (ap length may_go);
      are_ends = subst (λ (zs : List ℕ). AreEnds 0 zs (length ys)) (sym ends) (subst (AreEnds 0 es) (sym (ap length operands)) columns.are_ends);
    }

    pub view_stays : (cs : List Candidate) → candidates_of ms os (rows_from 0 es xs) ≡ cs → candidates_of fresh_ms (arounds_of fresh_bs fresh_ns) (rows_from 0 fs ys) ≡ cs
    view_stays cs view =
        ap (λ (zs : List Bool). candidates_of zs (arounds_of fresh_bs fresh_ns) (rows_from 0 fs ys)) may_go
        ∙ ap (λ (zs : List Bool). candidates_of ms (arounds_of zs fresh_ns) (rows_from 0 fs ys)) insides
        ∙ ap (λ (zs : List ℕ). candidates_of ms (arounds_of bs zs) (rows_from 0 fs ys)) arounds
        ∙ ap (λ (zs : List ℕ). candidates_of ms os (rows_from 0 zs ys)) ends
        ∙ ap (λ (zs : List Operand). candidates_of ms os (rows_from 0 es zs)) operands
        ∙ view

  module _ (m : Bool) (o : Option ℕ) (row : List Operand) (fresh_ms fresh_bs : List Bool) (fresh_ns fs : List ℕ) (ys : List Operand) (n : ℕ)
      (may_go : fresh_ms ≡ ms ++ m ∷ []) (insides : fresh_bs ≡ bs ++ is_some o ∷ []) (arounds : fresh_ns ≡ ns ++ unwrap_or o 0 ∷ []) (ends : fs ≡ es ++ n ∷ []) (operands : ys ≡ xs ++ row) (end : n ≡ length ys) where
    end_is : n ≡ length xs + length row
    end_is = end ∙ ap length operands ∙ length-append xs row

    pub columns_more : AreColumns fresh_ms fresh_bs fresh_ns fs ys
    columns_more =
        let a = length-append ms (m ∷ []) in let b = length-append bs (is_some o ∷ []) in let d = length-append ns (unwrap_or o 0 ∷ []) in let c = length-append es (n ∷ []) in
        let p = ap length may_go in let q = ap length insides in let r = ap length arounds in let s = ap length ends in
        let t = columns.insides in let u = columns.arounds in let v = columns.rows in let i = end_is in record {
          insides = omega (arith, a, b, p, q, t);
          arounds = omega (arith, a, d, p, r, u);
          rows = omega (arith, a, c, p, s, v);
          are_ends = subst (λ (zs : List ℕ). AreEnds 0 zs (length ys)) (sym ends) (subst (AreEnds 0 (es ++ n ∷ [])) end (ends_more 0 es (length xs) n (omega (arith, i)) columns.are_ends));
        }

    around : arounds_of fresh_bs fresh_ns ≡ os ++ o ∷ []
    around =
        ap (λ (zs : List Bool). arounds_of zs fresh_ns) insides ∙ ap (arounds_of (bs ++ is_some o ∷ [])) arounds
        ∙ arounds_more bs ns (is_some o) (unwrap_or o 0) as_long ∙ ap (λ (z : Option ℕ). os ++ z ∷ []) (around_whole o)

    pub view_more : (cs : List Candidate) → candidates_of ms os (rows_from 0 es xs) ≡ cs → candidates_of fresh_ms (arounds_of fresh_bs fresh_ns) (rows_from 0 fs ys) ≡ cs ++ record { may_go = m; around = o; operands = row } ∷ []
    view_more cs view =
        ap (λ (zs : List Bool). candidates_of zs (arounds_of fresh_bs fresh_ns) (rows_from 0 fs ys)) may_go
        ∙ ap (λ (zs : List (Option ℕ)). candidates_of (ms ++ m ∷ []) zs (rows_from 0 fs ys)) around
        ∙ ap (λ (zs : List ℕ). candidates_of (ms ++ m ∷ []) (os ++ o ∷ []) (rows_from 0 zs ys)) ends
        ∙ ap (λ (zs : List Operand). candidates_of (ms ++ m ∷ []) (os ++ o ∷ []) (rows_from 0 (es ++ n ∷ []) zs)) operands
        ∙ ap (candidates_of (ms ++ m ∷ []) (os ++ o ∷ [])) (row_more 0 es xs row n end_is columns.are_ends)
        ∙ one_more ms os (rows_from 0 es xs) m o row arounds_are rows_len
        ∙ ap (λ (ds : List Candidate). ds ++ record { may_go = m; around = o; operands = row } ∷ []) view
