-- Each arm puts the words that the definition has for its fault.
use Rattle.usage.specs.Usage.{fault_words}
use Rattle.usage.proofs.put_fault.Goals as goal

pub returns-in-Word-clause-put : goal.returns-in-Word-clause-put
unfolding fault_words
returns-in-Word-clause-put c = rw c.in-Word.is c.put.ensures

pub returns-in-Book-clause-put : goal.returns-in-Book-clause-put
unfolding fault_words
returns-in-Book-clause-put c = rw c.in-Book.is c.put-in-Book.ensures

pub returns-in-Release-clause-put : goal.returns-in-Release-clause-put
unfolding fault_words
returns-in-Release-clause-put c = rw c.in-Release.is c.put-in-Release.ensures

pub returns-in-Strips-clause-put : goal.returns-in-Strips-clause-put
unfolding fault_words
returns-in-Strips-clause-put c = rw c.in-Strips.is c.put-in-Strips.ensures

pub returns-in-Show-clause-put : goal.returns-in-Show-clause-put
unfolding fault_words
returns-in-Show-clause-put c = rw c.in-Show.is c.put-in-Show.ensures
