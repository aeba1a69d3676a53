use Rattle.std.proofs.Common.{arith, List, ℕ, true, false, length, ◌==◌, rules, refl, sym, subst, ◌∙◌, ap, ◌≡◌}
use Rattle.esc_zone.specs.Records.{RecordsValue}
use Rattle.esc_zone.specs.Drafts.{zone_notes}
use Rattle.esc_zone.specs.Delegations.{has_place, with_records, server_records, texts_of, AddsDelegation}
use Rattle.esc_zone.specs.Told.{told_lines, TellsOfDelegation}
use Rattle.esc_zone.proofs.Added.{made_if}
use Rattle.esc_zone.specs.Mirrors.{original_notes, KeepsServers}
use Rattle.esc_zone.proofs.Delegated.{no_server, some_servers}
use Rattle.esc_zone.proofs.Telling.{none_served, some_served}
use Rattle.esc_zone.proofs.Keeping.{keeps_nothing, keeps_servers}
use Rattle.esc_zone.proofs.draft.Draft.delegate_domain.Goals as goal

pub returns-then-is_empty-clause-records : goal.returns-then-is_empty-clause-records
returns-then-is_empty-clause-records c =
    let z = zone_notes c.args.self.now in
    let texts = texts_of c.args.servers.now in
    let rows = c.args.rows.now in
    let before = c.args.sheet.now.records in
    let name = c.in-Some.name in
    let left : (length c.in_ok-servers.servers.items == 0) ≡ true = search rules in
    let made = made_if (has_place z c.args.text.now) c.args.text.now name
    (sym c.in-Some.is ∙ c.in_ok-name.ensures.name) in
    let placed = subst (λ (n : List ℕ). has_place z n ≡ true) made.1 made.0 in
    let same = c.in_ok-leave_out.ensures.same ∙ c.in_ok-servers.ensures.same ∙ c.in_ok-name.ensures.same in
    subst (λ (n : List ℕ). AddsDelegation z n rows texts before c.leave_out.new.self.records) (sym made.1)
    (no_server z name rows texts c.in_ok-servers.servers.items before c.leave_out.new.self.records placed
    c.in_ok-servers.ensures.kept left same)

pub returns-clause-records : goal.returns-clause-records
returns-clause-records c =
    let z = zone_notes c.args.self.now in
    let texts = texts_of c.args.servers.now in
    let rows = c.args.rows.now in
    let name = c.in-Some.name in
    let hosts = c.in_ok-servers.servers.items in
    let start = c.usable.new.sheet.records in
    let end = c.write_signers.new.sheet.records in
    let left : (length hosts == 0) ≡ false = search rules in
    let made = made_if (has_place z c.args.text.now) c.args.text.now name
    (sym c.in-Some.is ∙ c.in_ok-name.ensures.name) in
    let placed = subst (λ (n : List ℕ). has_place z n ≡ true) made.1 made.0 in
    let same = c.in_ok-servers.ensures.same ∙ c.in_ok-name.ensures.same in
    let served = c.in_ok-write_servers.ensures.records
    ∙ ap (λ (l : List (List ℕ)). with_records start (server_records start.ttl name l)) c.deref.ensures.value in
    subst (λ (n : List ℕ). AddsDelegation z n rows texts c.args.sheet.now.records end) (sym made.1)
    (subst (λ (b : RecordsValue). AddsDelegation z name rows texts b end) same
    (some_servers z name rows texts hosts start c.write_servers.new.sheet.records end placed
    c.in_ok-servers.ensures.kept left served
    c.in_ok-write_signers.ensures.records))

pub returns-then-is_empty-clause-told : goal.returns-then-is_empty-clause-told
returns-then-is_empty-clause-told c =
    let z = zone_notes c.args.self.now in
    let rows = c.args.rows.now in
    let asked : told_lines c.args.sheet.now ≡ told_lines c.name_for.new.sheet =
    rw c.in-Some.is at c.in_ok-name.ensures.told in
    let servers = c.args.servers.now in
    let start = told_lines c.args.sheet.now in
    let end = told_lines c.leave_out.new.self in
    let left : (length c.in_ok-servers.servers.items == 0) ≡ true = search rules in
    let made = made_if (has_place z c.args.text.now) c.args.text.now c.in-Some.name
    (sym c.in-Some.is ∙ c.in_ok-name.ensures.name) in
    let placed = subst (λ (n : List ℕ). has_place z n ≡ true) made.1 made.0 in
    subst (λ (n : List ℕ). TellsOfDelegation z n rows (texts_of servers) start end) (sym made.1)
    (none_served z c.in-Some.name rows servers c.in_ok-servers.servers.items start _ end placed
    c.in_ok-servers.ensures.kept left (omega (arith, asked, c.in_ok-servers.ensures.told))
    c.in_ok-leave_out.ensures.told)

pub returns-clause-told : goal.returns-clause-told
returns-clause-told c =
    let z = zone_notes c.args.self.now in
    let rows = c.args.rows.now in
    let asked : told_lines c.args.sheet.now ≡ told_lines c.name_for.new.sheet =
    rw c.in-Some.is at c.in_ok-name.ensures.told in
    let servers = c.args.servers.now in
    let start = told_lines c.args.sheet.now in
    let end = told_lines c.write_signers.new.sheet in
    let left : (length c.in_ok-servers.servers.items == 0) ≡ false = search rules in
    let made = made_if (has_place z c.args.text.now) c.args.text.now c.in-Some.name
    (sym c.in-Some.is ∙ c.in_ok-name.ensures.name) in
    let placed = subst (λ (n : List ℕ). has_place z n ≡ true) made.1 made.0 in
    subst (λ (n : List ℕ). TellsOfDelegation z n rows (texts_of servers) start end) (sym made.1)
    (some_served z c.in-Some.name rows servers c.in_ok-servers.servers.items start
    (told_lines c.write_servers.new.sheet) end placed c.in_ok-servers.ensures.kept left
    (omega (arith, asked, c.in_ok-servers.ensures.told, c.in_ok-write_servers.ensures.told))
    c.in_ok-write_signers.ensures.told)

pub returns-in_default-clause-originals : goal.returns-in_default-clause-originals
returns-in_default-clause-originals c =
    keeps_nothing c.args.text.now (original_notes c.args.self.now) _ c.args.sheet.now.records _ refl
    c.in_ok-name.ensures.same

pub returns-then-is_empty-clause-originals : goal.returns-then-is_empty-clause-originals
returns-then-is_empty-clause-originals c =
    keeps_nothing c.args.text.now (original_notes c.args.self.now) _ c.args.sheet.now.records _ refl
    (c.in_ok-leave_out.ensures.same ∙ c.in_ok-servers.ensures.same ∙ c.in_ok-name.ensures.same)

pub returns-clause-originals : goal.returns-clause-originals
returns-clause-originals c =
    let z = zone_notes c.args.self.now in
    let o = original_notes c.args.self.now in
    let name = c.in-Some.name in
    let hosts = c.in_ok-servers.servers.items in
    let start = c.usable.new.sheet.records in
    let end = c.write_signers.new.sheet.records in
    let kept = original_notes c.keep_servers.new.self in
    let left : (length hosts == 0) ≡ false = search rules in
    let made = made_if (has_place z c.args.text.now) c.args.text.now name
    (sym c.in-Some.is ∙ c.in_ok-name.ensures.name) in
    let same = c.in_ok-servers.ensures.same ∙ c.in_ok-name.ensures.same in
    let served = c.in_ok-write_servers.ensures.records
    ∙ ap (λ (l : List (List ℕ)). with_records start (server_records start.ttl name l)) c.deref.ensures.value in
    let signed = c.in_ok-write_signers.ensures.records in
    subst (λ (b : RecordsValue). KeepsServers c.args.text.now o kept b end) same
    (keeps_servers name c.args.text.now hosts signed.0 o (original_notes c.write_servers.new.self)
    (original_notes c.write_signers.new.self) kept start c.write_servers.new.sheet.records end (sym made.1) left served
    signed.2 c.in_ok-write_servers.ensures.originals c.in_ok-write_signers.ensures.originals
    c.keep_servers.ensures.originals)
