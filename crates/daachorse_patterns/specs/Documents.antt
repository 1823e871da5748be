-- The documents of a corpus, by their units.
use Rattle.std.specs.Prelude.{ℕ, List, map}
use Rattle.daachorse_patterns.specs.declared.corpus.Corpus.{Corpus}

abbrev pub documents_of : {L A : Type 0} → (L → ℕ) → Corpus L A → List (List ℕ)
documents_of unit corpus = map (λ document. map unit document.items) corpus.documents.items
