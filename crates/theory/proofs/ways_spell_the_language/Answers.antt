use Rattle.language.specs.Words.{LetterTakes}
use Rattle.theory.proofs.WaysSpell.{ways_spell}
use Rattle.theory.proofs.WordsLead.{words_lead}
use Rattle.theory.proofs.ways_spell_the_language.Goals as goal

pub returns : goal.returns
returns c t w = (ways_spell LetterTakes t w, words_lead LetterTakes t w)
