-- What the router of the routes finds is where the path leads, by its text.
use Rattle.std.proofs.Common.{◌≡◌, ℕ, zero, suc, ◌-◌, List, [], ◌∷◌, ◌++◌, Bool, true, false}
use Rattle.std.proofs.Common.{◌==◌, ◌&&◌, ◌||◌, not, cond, if◌then◌else◌, nat_lt, nat_eq, length}
use Rattle.std.proofs.Common.{drop, refl, sym, ap, subst, ◌∙◌, arith, codes, Option, Some, None}
use Rattle.std.proofs.Common.{option_map, option_and_then}
use Rattle.std.proofs.lemmas.Bool.Decides.{nat_tests}
use Rattle.std.specs.List.{starts_with, list_any}
use Rattle.std.specs.Str.{bytes_eq, IsCharBoundary}
use Rattle.std.specs.Str.Pattern.{FindsTextPrefix, StripsPrefix}
use Rattle.std.specs.Option.{MatchOption}
use Rattle.std.proofs.lemmas.Str.Pattern.{starts_text}
use denote.Ref.{Bor}
use Rattle.matchit.specs.Rows.{RowsOf, param_token, catch_all_token}
use Rattle.matchit.specs.Router.{RouteOf}
use Rattle.matchit.specs.Seek.{own, step, or_else, seek, first, param_step, has_slash}
use Rattle.esc_http.specs.declared.route.Target.{Target}
use Rattle.esc_reports.specs.declared.catalog.Report.TheVariants as report
use Rattle.esc_http.specs.declared.route.Target.TheVariants.{Arrivals, Export, Report}
use Rattle.esc_http.specs.Route.{Destination, arrival, strip, is_segment, if_segment, export_named, route_of, way_to}
use Rattle.esc_http.specs.Router.{fixed, ending, rows}

-- each of these is a byte, and no token of a parameter
abbrev are_bytes : List ℕ → Bool
are_bytes [] = true
are_bytes (x ∷ w) = if nat_lt x 256 then are_bytes w else false

both : (b c : Bool) → (if b then c else false) ≡ true → (b ≡ true) × (c ≡ true)
both true c h = (refl, h)
both false c h = absurd cc

slash_is : (path : List ℕ) → has_slash path ≡ list_any (λ c. c == 47) path
slash_is [] = refl
slash_is (b ∷ path) = elim (b == 47) as (λ v. cond v true (has_slash path)
    ≡ (v || list_any (λ c. c == 47) path)) [ true ↦ refl | false ↦ slash_is path ]

module _ {K : Type 0} where
  or_else_none : (o : Option K) → or_else o None ≡ o
  or_else_none None = refl
  or_else_none (Some k) = refl

  param_of_none : (path : List ℕ) → (param_step {K = K} [] path).1 ≡ []
  unfolding param_step
  param_of_none path = elim (has_slash path) as
      (λ v. (cond {A = ℕ × RowsOf K} v (0, []) (length path, [])).1 ≡ []) [ true ↦ refl | false ↦ refl ]

  -- no rows lead nowhere
  nowhere : (skip : ℕ) (path : List ℕ) → seek {K = K} skip [] path ≡ None
  unfolding seek
  nowhere skip [] = refl
  nowhere (suc skip) (b ∷ path) = nowhere skip path
  nowhere zero (b ∷ path) = simp (
    nowhere 0 path,
    param_of_none (b ∷ path),
    nowhere (((param_step {K = K} [] (b ∷ path)).0) - 1) path,
  )

  -- if no row goes on with a parameter, the rows go on with the path's byte
  by_byte : (rs : RowsOf K) (b : ℕ) (path : List ℕ) → step param_token rs ≡ []
      → step catch_all_token rs ≡ [] → first rs (b ∷ path) ≡ first (step b rs) path
  unfolding seek
  by_byte rs b path no_param no_rest =
      simp (
        no_param,
        no_rest,
        param_of_none (b ∷ path),
        nowhere ((param_step {K = K} [] (b ∷ path)).0 - 1) path,
        or_else_none,
      )

  not_there : (token x : ℕ) (w : List ℕ) (k : K)
      → (x == token) ≡ false → step token ((x ∷ w, k) ∷ []) ≡ []
  not_there token x w k other = rw other refl

  -- a byte goes on with its row alone
  goes_on : (x : ℕ) (w : List ℕ) (k : K) (y : ℕ) (path : List ℕ) → nat_lt x 256 ≡ true
      → first ((x ∷ w, k) ∷ []) (y ∷ path) ≡ first (cond (x == y) ((w, k) ∷ []) []) path
  goes_on x w k y path byte =
      let no_param : (x == param_token) ≡ false = grind (arith, nat_tests) in
      let no_rest : (x == catch_all_token) ≡ false = grind (arith, nat_tests) in
      by_byte ((x ∷ w, k) ∷ []) y path (not_there param_token x w k no_param)
      (not_there catch_all_token x w k no_rest)

  -- the end of a row
  ended : (k : K) (path : List ℕ) → first (([], k) ∷ []) path ≡ (if bytes_eq [] path then Some k else None)
  unfolding seek
  ended k [] = refl
  ended k (b ∷ path) = by_byte (([], k) ∷ []) b path refl refl ∙ nowhere 0 path

  -- the row of one path
  pub fixed_row : (w : List ℕ) (k : K) (path : List ℕ)
      → are_bytes w ≡ true → first ((w, k) ∷ []) path ≡ (if bytes_eq w path then Some k else None)
  unfolding seek
  fixed_row [] k path bytes = ended k path
  fixed_row (x ∷ w) k [] bytes = refl
  fixed_row (x ∷ w) k (y ∷ path) bytes =
      let (byte, rest) = both (nat_lt x 256) (are_bytes w) bytes in
      goes_on x w k y path byte
      ∙ elim (x == y) as (λ v. first (cond v ((w, k) ∷ []) []) path ≡ (if v && bytes_eq
      w path then Some k else None)) [ true ↦ fixed_row w k path rest | false ↦ nowhere 0 path ]

  -- a row that begins with bytes
  pub front_row : (w t : List ℕ) (k : K) (path : List ℕ) → are_bytes w ≡ true → first ((w ++ t, k) ∷ [])
      path ≡ (if starts_with nat_eq path w then first ((t, k) ∷ []) (drop (length w) path) else None)
  unfolding seek
  front_row [] t k path bytes = refl
  front_row (x ∷ w) t k [] bytes = refl
  front_row (x ∷ w) t k (y ∷ path) bytes =
      let (byte, rest) = both (nat_lt x 256) (are_bytes w) bytes in
      goes_on x (w ++ t) k y path byte
      ∙ elim (x == y) as (λ v. first (cond v ((w ++ t, k) ∷ []) []) path ≡ (if
      v && starts_with nat_eq path w then first ((t, k) ∷ []) (drop (length w) path) else None))
      [ true ↦ front_row w t k path rest | false ↦ nowhere 0 path ]

  skip_all : (rs : RowsOf K) (path : List ℕ) → seek (length path) rs path ≡ own rs
  unfolding seek
  skip_all rs [] = refl
  skip_all rs (b ∷ path) = skip_all rs path

  -- where a parameter goes on that nothing follows: after all of the path, if that is one segment
  abbrev behind : K → Bool → ℕ → ℕ × RowsOf K
  behind k slash size = cond slash (0, []) (size, ([], k) ∷ [])

  param_at : (k : K) (path : List ℕ) → param_step (([], k) ∷ []) path ≡ behind k (has_slash path) (length path)
  unfolding param_step
  param_at k path = refl

  -- a path of one byte
  one_byte : (k : K) (b : ℕ)
      → first ((param_token ∷ [], k) ∷ []) (b ∷ []) ≡ (if is_segment (b ∷ []) then Some k else None)
  unfolding seek param_step
  one_byte k b = by (b == 47) refl (256 == b)
    where
      by : (slash : Bool) → (b == 47) ≡ slash → (token : Bool)
          → or_else (own (cond (256 == b) (([], k) ∷ []) []))
          (or_else (own (behind k (cond slash true false) 1).1) None)
          ≡ (if not (slash || false) then Some k else None)
      by true e token =
          let other : (256 == b) ≡ false = grind (arith, nat_tests) in
          rw other refl
      by false e token = elim (256 == b) as (λ v. or_else (own (cond v (([], k) ∷ []) [])) (Some k)
          ≡ Some k) [ true ↦ refl | false ↦ refl ]

  -- a longer path
  more_bytes : (k : K) (b c : ℕ) (path : List ℕ) → first ((param_token ∷ [], k) ∷ []) (b ∷ c ∷ path)
      ≡ (if is_segment (b ∷ c ∷ path) then Some k else None)
  unfolding seek
  more_bytes k b c path =
      let before : first (cond (256 == b) (([], k) ∷ []) []) (c ∷ path) ≡ None =
      elim (256 == b) as (λ v. first (cond v (([], k) ∷ []) []) (c ∷ path) ≡ None)
      [ true ↦ ended k (c ∷ path) | false ↦ nowhere 0 (c ∷ path) ] in
      let sought : or_else (seek ((param_step (([], k) ∷ []) (b ∷ c ∷ path)).0 - 1)
      (param_step (([], k) ∷ []) (b ∷ c ∷ path)).1 (c ∷ path)) None
      ≡ (if is_segment (b ∷ c ∷ path) then Some k else None) =
      or_else_none _
      ∙ ap (λ (at : ℕ × RowsOf K). seek (at.0 - 1) at.1 (c ∷ path)) (param_at k (b ∷ c ∷ path)
      ∙ ap (λ (v : Bool). behind k v (length (b ∷ c ∷ path))) (slash_is (b ∷ c ∷ path)))
      ∙ skipped (list_any (λ x. x == 47) (b ∷ c ∷ path)) in
      rw before sought
    where
      skipped : (slash : Bool) → seek ((behind k slash (length (b ∷ c ∷ path))).0 - 1)
          (behind k slash (length (b ∷ c ∷ path))).1 (c ∷ path) ≡ (if not slash then Some k else None)
      skipped true = nowhere 0 (c ∷ path)
      skipped false =
          let size : length (b ∷ c ∷ path) - 1 ≡ length (c ∷ path) = omega arith in
          ap (λ (n : ℕ). seek n (([], k) ∷ []) (c ∷ path)) size ∙ skip_all (([], k) ∷ []) (c ∷ path)

  -- the row of a parameter at the end: it takes one segment that isn't empty
  pub param_row : (k : K) (path : List ℕ)
      → first ((param_token ∷ [], k) ∷ []) path ≡ (if is_segment path then Some k else None)
  unfolding seek
  param_row k [] = refl
  param_row k (b ∷ []) = one_byte k b
  param_row k (b ∷ c ∷ path) = more_bytes k b c path

-- one of two cases of a byte
letter : (c z : ℕ) (P : ℕ → Type 0) → P c → ((c == z) ≡ false → P z) → P z
letter c z P here other = by (c == z) refl
  where
    by : (v : Bool) → (c == z) ≡ v → P z
    by true e = let same : c ≡ z = grind (arith, nat_tests) in subst P same here
    by false e = other e

-- where the first of the rows leads that a path has
abbrev found_in : RowsOf (RouteOf Target) → List ℕ → List ℕ → Option Destination
found_in rs path rest = option_and_then (λ (r : RouteOf Target). way_to r.value path) (first rs rest)

-- a path whose second byte is this one has one row, that ends there
fixed_leads : (w : List ℕ) (k : RouteOf Target) (q path : List ℕ) → are_bytes w ≡ true
    → found_in ((w, k) ∷ []) path q ≡ (if bytes_eq w q then way_to k.value path else None)
fixed_leads w k q path bytes = ap (option_and_then (λ (r : RouteOf Target). way_to r.value path))
    (fixed_row w k q bytes) ∙ by (bytes_eq w q)
  where
    by : (v : Bool) → option_and_then (λ (r : RouteOf Target). way_to r.value path)
        (if v then Some k else None) ≡ (if v then way_to k.value path else None)
    by true = refl
    by false = refl

-- or that ends with a parameter
param_leads : (w : List ℕ) (k : RouteOf Target) (q path : List ℕ) → are_bytes w ≡ true
    → found_in ((w ++ param_token ∷ [], k) ∷ []) path q ≡ (if starts_with nat_eq
    q w then (if is_segment (drop (length w) q) then way_to k.value path else None) else None)
param_leads w k q path bytes =
    ap (option_and_then (λ (r : RouteOf Target). way_to r.value path))
    (front_row w (param_token ∷ []) k q bytes ∙ ap (λ (o : Option (RouteOf Target)). if starts_with
    nat_eq q w then o else None) (param_row k (drop (length w) q)))
    ∙ by (starts_with nat_eq q w) (is_segment (drop (length w) q))
  where
    by : (v s : Bool) → option_and_then (λ (r : RouteOf Target). way_to r.value path)
        (if v then (if s then Some k else None) else None)
        ≡ (if v then (if s then way_to k.value path else None) else None)
    by true true = refl
    by true false = refl
    by false s = refl

-- whether or not a path begins as that of an arrival
arrival_cases : (begins : Bool) (rest : List ℕ)
    → (if begins then (if is_segment rest then
    option_map arrival (if begins then Some rest else None) else None) else None) ≡ (if begins then
    option_map arrival (option_and_then if_segment (if begins then Some rest else None)) else None)
arrival_cases true rest = elim (is_segment rest) as (λ s. (if s then Some (arrival rest) else None)
    ≡ option_map arrival (if s then Some rest else None)) [ true ↦ refl | false ↦ refl ]
arrival_cases false rest = refl

-- or as that of an export
export_cases : (begins : Bool) (rest : List ℕ)
    → (if begins then (if is_segment rest then
    option_and_then export_named (if begins then Some rest else None) else None) else None)
    ≡ option_and_then export_named (option_and_then if_segment (if begins then Some rest else None))
export_cases true rest = elim (is_segment rest) as (λ s. (if s then export_named rest else None)
    ≡ option_and_then export_named (if s then Some rest else None)) [ true ↦ refl | false ↦ refl ]
export_cases false rest = refl

-- the rest of the rows that go on with this byte leads where the path does
abbrev Goes : List ℕ → ℕ → Type 0
Goes q y = found_in (step y (step 47 rows)) (47 ∷ y ∷ q) q ≡ route_of (47 ∷ y ∷ q)

abbrev Begins : List ℕ → ℕ → Type 0
Begins p x = found_in (step x rows) (x ∷ p) p ≡ route_of (x ∷ p)

-- by the byte after the slash
second_byte : (z : ℕ) (q : List ℕ)
    → found_in (step 47 rows) (47 ∷ z ∷ q) (z ∷ q) ≡ route_of (47 ∷ z ∷ q)
second_byte z q =
    ap (option_and_then (λ (r : RouteOf Target). way_to r.value (47 ∷ z ∷ q)))
    (by_byte (step 47 rows) z q refl refl)
    ∙ letter 97 z (Goes q) to_arrival (λ a. letter 101 z (Goes q)
    to_export (λ e. letter 103 z (Goes q) to_gaps (λ g. letter 108 z (Goes q) to_links (λ l. letter
    109 z (Goes q) to_moment (λ m. letter 112 z (Goes q) to_parked (λ p. letter 114 z (Goes q)
    to_receipts (λ r. letter 115 z (Goes q) to_status (λ s. nowhere_else a e g l m p r s))))))))
  where
    to_arrival : Goes q 97
    to_arrival =
        param_leads (codes "rrivals/") (ending (codes "/arrivals/")
        (codes "/arrivals/{number}") (11, 17) Arrivals).1 q (47 ∷ 97 ∷ q) refl
        ∙ arrival_cases (starts_with nat_eq q (codes "rrivals/")) (drop 8 q)

    to_export : Goes q 101
    to_export =
        param_leads (codes "xport/")
        (ending (codes "/export/") (codes "/export/{kind}") (9, 13) Export).1 q (47 ∷ 101 ∷ q) refl
        ∙ export_cases (starts_with nat_eq q (codes "xport/")) (drop 6 q)

    to_gaps : Goes q 103
    to_gaps = fixed_leads (codes "aps") (fixed (codes "/gaps") (Report report.Gaps)).1 q (47 ∷ 103 ∷ q) refl

    to_links : Goes q 108
    to_links = fixed_leads (codes "inks") (fixed (codes "/links") (Report report.Links)).1 q (47 ∷ 108 ∷ q) refl

    to_moment : Goes q 109
    to_moment = fixed_leads (codes "oment") (fixed (codes "/moment") (Report report.Moment)).1 q (47 ∷ 109 ∷ q) refl

    to_parked : Goes q 112
    to_parked = fixed_leads (codes "arked") (fixed (codes "/parked") (Report report.Parked)).1 q (47 ∷ 112 ∷ q) refl

    to_receipts : Goes q 114
    to_receipts = fixed_leads (codes "eceipts")
        (fixed (codes "/receipts") (Report report.Receipts)).1 q (47 ∷ 114 ∷ q) refl

    to_status : Goes q 115
    to_status = fixed_leads (codes "tatus") (fixed (codes "/status") (Report report.Status)).1 q (47 ∷ 115 ∷ q) refl

    nowhere_else : (97 == z) ≡ false
        → (101 == z) ≡ false → (103 == z) ≡ false → (108 == z) ≡ false → (109 == z) ≡ false
        → (112 == z) ≡ false → (114 == z) ≡ false → (115 == z) ≡ false → Goes q z
    nowhere_else a e g l m p r s = rw (a, e, g, l, m, p, r, s)
        (ap (option_and_then (λ (r : RouteOf Target). way_to r.value (47 ∷ z ∷ q))) (nowhere 0 q))

-- the route that the router finds is that of the path
pub leads : (path : List ℕ) → found_in rows path path ≡ route_of path
unfolding seek
leads [] = refl
leads (y ∷ p) = ap (option_and_then (λ (r : RouteOf Target). way_to r.value (y ∷ p)))
    (by_byte rows y p refl refl) ∙ letter 47 y (Begins p) (behind_slash p) nowhere_else
  where
    behind_slash : (q : List ℕ) → found_in (step 47 rows) (47 ∷ q) q ≡ route_of (47 ∷ q)
    behind_slash [] = refl
    behind_slash (z ∷ q) = second_byte z q

    nowhere_else : (47 == y) ≡ false → Begins p y
    nowhere_else e = rw e (ap (option_and_then (λ (r : RouteOf Target). way_to r.value (y ∷ p))) (nowhere 0 p))

-- where a path leads whose route the router found
pub found_leads : (rs : RowsOf (RouteOf Target)) (path : List ℕ) (r : RouteOf Target)
    → rs ≡ rows → first rs path ≡ Some r → way_to r.value path ≡ route_of path
found_leads rs path r is found =
    sym (ap (option_and_then (λ (x : RouteOf Target). way_to x.value path)) found)
    ∙ ap (λ (x : RowsOf (RouteOf Target)). found_in x path path) is ∙ leads path

-- a path for which it found none leads nowhere
pub none_leads : (rs : RowsOf (RouteOf Target)) (path : List ℕ)
    → rs ≡ rows → first rs path ≡ None → None ≡ route_of path
none_leads rs path is found =
    sym (ap (option_and_then (λ (x : RouteOf Target). way_to x.value path)) found)
    ∙ ap (λ (x : RowsOf (RouteOf Target)). found_in x path path) is ∙ leads path

-- what `strip_prefix` returns at a text
pub strip_is : (front text : List ℕ) (o : Option (Bor (List ℕ))) → MatchOption
    o (FindsTextPrefix front text None) (λ x. StripsPrefix (FindsTextPrefix front) text x.now)
    → option_map (λ x. x.now) o ≡ strip front text
strip_is front text None none =
    let misses : starts_with nat_eq text front ≡ false = sym (starts_text false front text none) in
    rw misses refl
strip_is front text (Some x) (n, found, is, size) =
    let hits : starts_with nat_eq text front ≡ true = sym
    (starts_text true front text (n, found, subst (IsCharBoundary text) (sym found.0) found.2)) in
    rw hits (ap Some (is ∙ ap (λ (k : ℕ). drop k text) found.0))
