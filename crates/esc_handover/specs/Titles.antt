-- The title of a page, which begins with whether the registry may be taken over.
use Rattle.std.specs.Prelude.{◌≡◌, ℕ, Bool, true, false, List, ◌++◌, codes}
use Rattle.esc_html.specs.Markup.{page_text}

-- what a title begins with
abbrev pub verdict_words : Bool → List ℕ
verdict_words true = codes "May be taken over: "
verdict_words false = codes "Not to be taken over: "

-- a title begins so
abbrev pub BeginsWithVerdict : Bool → List ℕ → Type 0
BeginsWithVerdict accepted title = (rest : List ℕ) × (title ≡ verdict_words accepted ++ rest)

-- a page has this title
abbrev pub HasTitle : List ℕ → List ℕ → Type 0
HasTitle title page = (style body : List ℕ) × (page ≡ page_text title style body)

-- a page has a title that begins so
abbrev pub TellsVerdict : Bool → List ℕ → Type 0
TellsVerdict accepted page =
    (title : List ℕ) × BeginsWithVerdict accepted title × HasTitle title page
