-- A piece of a page is in what it is put into, up to the page.
use Rattle.std.proofs.Common.{◌≡◌, ℕ, List, [], ◌++◌, get_or, All, Option, Some, None, refl, sym, ap, subst, ◌∙◌}
use Rattle.std.proofs.Common.{◌+◌, ◌<◌, length, take, append_assoc, append-nil, arith}
use Rattle.std.specs.Prelude.{option_map, codes}
use Rattle.std.specs.List.{flat_map}
use Rattle.std.proofs.lemmas.List.Elements.{All-more}
use Rattle.std.proofs.lemmas.Option.{same_Some, none-some}
use Rattle.esc_envelope.specs.declared.kind.Kind.{Kind}
use Rattle.esc_envelope.specs.declared.kind.Kind.TheVariants.{Registrar, Contact, Host, Domain, Idn, Nndn}
use Rattle.esc_envelope.specs.Kinds.{kinds}
use Rattle.esc_check.specs.declared.rule.Rule.{Rule}
use Rattle.esc_check.specs.declared.rule.Rule.TheVariants.{LinkTarget, ObjectCount, KnownStatus}
use Rattle.esc_check.specs.declared.rule.Rule.TheVariants.{OkAlone, CreatedBefore, ExpiresAfter, DateForm}
use Rattle.esc_check.specs.FindingValue.{FindingValue}
use Rattle.esc_html.specs.declared.tag.Tag.{Tag}
use Rattle.esc_html.specs.Escape.{escaped}
use Rattle.esc_html.specs.Names.{tag_name}
use Rattle.esc_html.specs.Markup.{Given, attribute_text, element_text, page_front, page_text, joined, IsUnlessRefused}
use Rattle.esc_handover.specs.PageParts.{IsPiece, IsWithin, kind_cells_text, HasKind, page_rules, rule_heading_text}
use Rattle.esc_handover.specs.PageParts.{HasRule}

-- ---- texts

-- a part of a part is a part
part_of_part : (a b c : List ℕ) → IsPiece a b → IsPiece b c → IsPiece a c
part_of_part a b c p q =
    let u = p.0 in
    let v = p.1 in
    let x = q.0 in
    let y = q.1 in (
      x ++ u,
      v ++ y,
      q.2
          ∙ ap (λ (t : List ℕ). x ++ t ++ y) p.2
          ∙ ap (λ (t : List ℕ). t ++ y)
          (sym (append_assoc x (u ++ a) v) ∙ ap (λ (t : List ℕ). t ++ v) (sym (append_assoc x u a)))
          ∙ append_assoc (x ++ u ++ a) v y,
    )

-- what is written in an element is a part of it
inside_part : (tag : Tag) (attributes : List Given) (inside : List ℕ)
    → IsPiece inside (element_text tag attributes inside)
inside_part tag attributes inside =
    let front : List ℕ = codes "<" ++ tag_name tag ++ flat_map attribute_text attributes ++ codes ">" in (
      front,
      codes "</" ++ (tag_name tag ++ codes ">"),
      append_assoc (front ++ inside ++ codes "</") (tag_name tag) (codes ">")
          ∙ append_assoc (front ++ inside) (codes "</") (tag_name tag ++ codes ">"),
    )

-- what is written in the body of a page is a part of the page
body_part : (title style body : List ℕ) → IsPiece body (page_text title style body)
body_part title style body = (
  page_front ++ escaped title ++ codes "</title><style>" ++ escaped style ++ codes "</style></head><body>",
  codes "</body></html>\n",
  refl,
)

-- ---- pieces of a page

-- a piece that is in another one is in what that one is in
pub within_both : (a b c : Option (List ℕ)) → IsWithin a b → IsWithin b c → IsWithin a c
within_both a b None p q = tt
within_both a None (Some z) p q = absurd (none-some q.0 q.1)
within_both a (Some y) (Some z) p q =
    let same : y ≡ q.0 = same_Some y q.0 q.1 in
    (p.0, p.1, part_of_part p.0 y z p.2 (subst (λ (t : List ℕ). IsPiece t z) (sym same) q.2))

-- a piece is in what another one is added to it
pub within_first : (a b c : Option (List ℕ)) → IsUnlessRefused (joined a b) c → IsWithin a c
within_first a b None is = tt
within_first None b (Some z) is = absurd (none-some z is)
within_first (Some x) None (Some z) is = absurd (none-some z is)
within_first (Some x) (Some y) (Some z) is = (x, refl, ([], y, sym (same_Some (x ++ y) z is)))

-- a piece is in what it is added to
pub within_second : (a b c : Option (List ℕ)) → IsUnlessRefused (joined a b) c → IsWithin b c
within_second a b None is = tt
within_second None b (Some z) is = absurd (none-some z is)
within_second (Some x) None (Some z) is = absurd (none-some z is)
within_second (Some x) (Some y) (Some z) is =
    (y, refl, (x, [], sym (same_Some (x ++ y) z is) ∙ sym (append-nil (x ++ y))))

-- a piece is in the element around it
pub within_element : (tag : Tag) (attributes : List Given) (a b c : Option (List ℕ))
    → IsUnlessRefused (joined a (option_map (element_text tag attributes) b)) c → IsWithin b c
within_element tag attributes a None c is =
    within_second a None c is
within_element tag attributes a (Some y) c is =
    within_both (Some y) (Some (element_text tag attributes y)) c
    (y, refl, inside_part tag attributes y) (within_second a (Some (element_text tag attributes y)) c is)

-- a piece that is exactly this has it
pub within_exact : (text : List ℕ) (c : Option (List ℕ)) → IsUnlessRefused (Some text) c → IsWithin (Some text) c
within_exact text None is = tt
within_exact text (Some z) is =
    (text, refl, ([], [], sym (same_Some text z is) ∙ sym (append-nil text)))

-- what is in the body of a page is in the page
pub within_page : (title style : List ℕ) (body : Option (List ℕ)) (page piece : List ℕ)
    → option_map (page_text title style) body ≡ Some page → IsWithin (Some piece) body → IsPiece piece page
within_page title style None page piece is within = absurd (none-some page is)
within_page title style (Some body) page piece is within =
    let same : piece ≡ within.0 = same_Some piece within.0 within.1 in
    let whole : page_text title style body ≡ page = same_Some (page_text title style body) page is in
    subst (IsPiece piece) whole (part_of_part piece body (page_text title style body)
    (subst (λ (t : List ℕ). IsPiece t body) (sym same) within.2) (body_part title style body))

-- ---- the kinds and the rules of a page

-- what holds of all kinds holds of each
pub each_kind : (P : Kind → Type 0) → All P kinds → (k : Kind) → P k
unfolding kinds
each_kind P all Registrar = all 0 Registrar (omega arith)
each_kind P all Contact = all 1 Contact (omega arith)
each_kind P all Host = all 2 Host (omega arith)
each_kind P all Domain = all 3 Domain (omega arith)
each_kind P all Idn = all 4 Idn (omega arith)
each_kind P all Nndn = all 5 Nndn (omega arith)

-- what holds of all rules of a page holds of each
pub each_rule : (P : Rule → Type 0) → All P page_rules → (rule : Rule) → P rule
unfolding page_rules
each_rule P all LinkTarget = all 0 LinkTarget (omega arith)
each_rule P all ObjectCount = all 1 ObjectCount (omega arith)
each_rule P all KnownStatus = all 2 KnownStatus (omega arith)
each_rule P all OkAlone = all 3 OkAlone (omega arith)
each_rule P all CreatedBefore = all 4 CreatedBefore (omega arith)
each_rule P all ExpiresAfter = all 5 ExpiresAfter (omega arith)
each_rule P all DateForm = all 6 DateForm (omega arith)

-- the cells of kinds that a piece has are in what that piece is in
pub kinds_within : (objects counts : List (Kind × ℕ)) (ks : List Kind) (a b : Option (List ℕ)) → IsWithin a b
    → All (HasKind objects counts a) ks → All (HasKind objects counts b) ks
kinds_within objects counts ks a b within all = λ i d below.
    within_both (Some (kind_cells_text objects counts (get_or ks i d))) a b (all i d below) within

-- the headings of rules that a piece has are in what that piece is in
pub rules_within : (findings : List FindingValue) (rs : List Rule) (a b : Option (List ℕ)) → IsWithin a b
    → All (HasRule findings a) rs → All (HasRule findings b) rs
rules_within findings rs a b within all = λ i d below some.
    within_both (Some (rule_heading_text findings (get_or rs i d))) a b (all i d below some) within

-- the cells of one more kind are there, once what has them is in what has the cells so far
pub kind_more : (objects counts : List (Kind × ℕ)) (ks : List Kind) (i : ℕ) (d : Kind) (a cells b : Option (List ℕ))
    → i < length ks → All (HasKind objects counts a) (take i ks) → HasKind objects counts cells (get_or ks i d)
    → IsWithin a b → IsWithin cells b → All (HasKind objects counts b) (take (i + 1) ks)
kind_more objects counts ks i d a cells b below so_far has old new =
    All-more (HasKind objects counts b) ks i d below (kinds_within objects counts (take i ks) a b old so_far)
    (within_both (Some (kind_cells_text objects counts (get_or ks i d))) cells b has new)

-- the heading of one more rule is there, once what has it is in what has the headings so far
pub rule_more : (findings : List FindingValue) (rs : List Rule) (i : ℕ) (d : Rule) (a one b : Option (List ℕ))
    → i < length rs → All (HasRule findings a) (take i rs) → HasRule findings one (get_or rs i d)
    → IsWithin a b → IsWithin one b → All (HasRule findings b) (take (i + 1) rs)
rule_more findings rs i d a one b below so_far has old new =
    All-more (HasRule findings b) rs i d below (rules_within findings (take i rs) a b old so_far)
    (λ some. within_both (Some (rule_heading_text findings (get_or rs i d))) one b (has some) new)
