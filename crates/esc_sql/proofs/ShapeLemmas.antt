-- A term is known by its nodes.
use Rattle.esc_sql.proofs.Common.{◌≡◌, ℕ, zero, suc, pos, List, [], ◌∷◌, refl, arith, ◌≤◌, length}
use Rattle.esc_sql.proofs.Common.{sym, ap, ◌∙◌, Compare, Eq, Int, col, lit}
use Rattle.sqlite_schema.specs.declared.code.Op.TheVariants.{Column, Literal, Binary}
use Rattle.std.proofs.Common.{◌-◌}
use Rattle.std.specs.Prelude.{slice_index_or}
use Rattle.sqlite_value.specs.declared.keys.Collation.TheVariants.{Binary as binary}
use Rattle.sqlite_schema.specs.declared.code.Op.{Op}
use Rattle.sqlite_schema.specs.Code.{op_term, term_to, term_in, terms_in}
use Rattle.esc_sql.specs.Schema.{first_is_one}
use Rattle.esc_sql.specs.Shape.{node_at, IsFirstOne}

-- a term whose nodes test that the first is one is that test
pub term_from_nodes : (ops : List Op) (root : ℕ) → IsFirstOne ops root → term_in ops root ≡ first_is_one
term_from_nodes ops root h = let e : length ops ≡ suc (suc (length ops - 2)) =
    (let d = h.deep in omega arith) in rw (e, h.is, h.left_is, h.right_is) refl

column_at : (ops : List Op) (depth at : ℕ)
    → term_to ops depth at ≡ col 1 0 → (1 ≤ depth) × (node_at ops at ≡ Column 1 0)
column_at ops zero at h = absurd cc
column_at ops (suc depth) at h = (omega arith, grind arith)

literal_at : (ops : List Op) (depth at : ℕ)
    → term_to ops depth at ≡ lit (Int (pos 1)) → node_at ops at ≡ Literal (Int (pos 1))
literal_at ops zero at h = absurd cc
literal_at ops (suc depth) at h = grind arith

nodes_of : (ops : List Op) (depth root : ℕ) (op : Op) → suc depth ≡ length ops
    → node_at ops root ≡ op → op_term (term_to ops depth) op ≡ first_is_one → IsFirstOne ops root
nodes_of ops depth root (Binary op a b) len is h =
    let same : op ≡ Compare Eq binary = cc in
    let left : term_to ops depth a ≡ col 1 0 = cc in
    let right : term_to ops depth b ≡ lit (Int (pos 1)) = cc in
    let l = column_at ops depth a left in
    record {
      left = a;
      right = b;
      deep = omega (arith, len, l.0);
      is = is ∙ ap (λ o. Binary o a b) same;
      left_is = l.1;
      right_is = literal_at ops depth b right;
    }
nodes_of ops depth root _ len is h = absurd cc

nodes_at : (ops : List Op) (depth root : ℕ)
    → depth ≡ length ops → term_to ops depth root ≡ first_is_one → IsFirstOne ops root
nodes_at ops zero root len h = absurd cc
nodes_at ops (suc depth) root len h = nodes_of ops depth root (node_at ops root) len refl h

-- a list of length one is its first
pub alone_of : (ops : List Op) (roots : List ℕ) (d : ℕ)
    → length roots ≡ 1 → roots ≡ slice_index_or roots 0 d ∷ []
alone_of ops [] d h = absurd (omega arith)
alone_of ops (x ∷ []) d h = refl
alone_of ops (x ∷ y ∷ more) d h = absurd (omega arith)

-- terms are that test alone exactly where their nodes are
pub tests_first : (ops : List Op) (roots : List ℕ) (d : ℕ) → length roots ≡ 1
    → (IsFirstOne ops (slice_index_or roots 0 d) → terms_in ops roots ≡ first_is_one ∷ [])
    × (terms_in ops roots ≡ first_is_one ∷ [] → IsFirstOne ops (slice_index_or roots 0 d))
tests_first ops roots d len =
    let alone = alone_of ops roots d len in
    let shown : terms_in ops roots ≡ term_in ops (slice_index_or roots 0 d) ∷ [] = ap (terms_in ops) alone in (
      λ h. shown ∙ ap (λ t. t ∷ []) (term_from_nodes ops _ h),
      λ e. let same : term_in
          ops (slice_index_or roots 0 d) ≡ first_is_one = (let both = sym shown ∙ e in cc) in
          nodes_at ops (length ops) _ refl same,
    )
