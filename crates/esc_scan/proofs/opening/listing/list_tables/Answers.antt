use Rattle.std.proofs.Common.{◌≡◌, map, sym, ap, subst, ◌∙◌, rules}
use Rattle.sqlite_wal.specs.Files.{seen_image}
use Rattle.sqlite_pool.specs.Pool
use Rattle.sqlite_pool.specs.Stored.{Recovers}
use Rattle.sqlite_store.specs.Unopened.{state_of, wanted_by}
use Rattle.sqlite_store.specs.Joined.{joined}
use Rattle.sqlite_store.specs.Listing.{listed_from}
use Rattle.sqlite.specs.Opening.{unrooted}
use Rattle.esc_scan.specs.Opening.{AreNumbered}
use Rattle.esc_scan.proofs.Layouts.{layouts, has_tables}
use Rattle.esc_scan.proofs.opening.listing.list_tables.Goals as goal

pub returns-clause-tables : goal.returns-clause-tables
returns-clause-tables g c told =
    let listed = c.in-Ok.listed.items in
    let numbered : AreNumbered listed =
    subst AreNumbered c.as_slice.ensures.value (c.are_numbered.ensures (search rules)) in
    let rows : c.as_slice-3.result.now ≡ map unrooted listed = c.as_slice-3.ensures.value
    ∙ c.in_ok-rows.ensures ∙ ap (map unrooted) c.as_slice-2.ensures.value in
    let lists : listed_from 0 (wanted_by c.list_schema.new.self)
    ≡ joined c.as_slice-3.result.now layouts = rw told at c.in_ok-list_schema.ensures.ok in
    has_tables (wanted_by c.list_schema.new.self) listed numbered (lists ∙ ap (λ r. joined r layouts) rows)

pub returns-clause-same : goal.returns-clause-same
returns-clause-same g c late =
    let files = c.list_schema.ensures.files in
    let size = (state_of c.args.files.now).page_size in
    let clean = sym (ap (λ p. (Pool.state p).is_clean) files) ∙ late in
    let cat = c.in-Ok.ensures.ok clean in
    record {
      size = ap (λ p. (Pool.state p).page_size) files ∙ (c.read_catalog.ensures.kept clean).size;
      pages = cat.pages;
      found = cat.found;
      again = subst (λ p. Recovers
          size (seen_image g.D.Disk (Pool.files p).0 (Pool.files p).1) cat.pages) (sym files) cat.again;
      shows = record {
        clean = subst Pool.IsClean (sym files) cat.shows.clean;
        committed = ap (λ p. (Pool.state p).committed) files ∙ cat.shows.committed;
      };
    }
