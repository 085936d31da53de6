use Rattle.std.proofs.Common.{rules}
use Rattle.rcgen_sign.proofs.AlgorithmLemmas.{form_of}
use Rattle.rcgen_sign.proofs.sign_algo.SignatureAlgorithm.key_element.Goals as goal

pub returns-in-RsaSha256-clause-form : goal.returns-in-RsaSha256-clause-form
returns-in-RsaSha256-clause-form c = form_of c.args.self.now _ (search rules)

pub returns-in-EcdsaP256Sha256-clause-form : goal.returns-in-EcdsaP256Sha256-clause-form
returns-in-EcdsaP256Sha256-clause-form c = form_of c.args.self.now _ (search rules)

pub returns-in-EcdsaP384Sha384-clause-form : goal.returns-in-EcdsaP384Sha384-clause-form
returns-in-EcdsaP384Sha384-clause-form c = form_of c.args.self.now _ (search rules)

pub returns-in-EcdsaP521Sha256-clause-form : goal.returns-in-EcdsaP521Sha256-clause-form
returns-in-EcdsaP521Sha256-clause-form c = form_of c.args.self.now _ (search rules)

pub returns-in-Ed25519-clause-form : goal.returns-in-Ed25519-clause-form
returns-in-Ed25519-clause-form c = form_of c.args.self.now _ (search rules)

pub returns-in-MlDsa44-clause-form : goal.returns-in-MlDsa44-clause-form
returns-in-MlDsa44-clause-form c = form_of c.args.self.now _ (search rules)

pub returns-in-MlDsa65-clause-form : goal.returns-in-MlDsa65-clause-form
returns-in-MlDsa65-clause-form c = form_of c.args.self.now _ (search rules)

pub returns-in-MlDsa87-clause-form : goal.returns-in-MlDsa87-clause-form
returns-in-MlDsa87-clause-form c = form_of c.args.self.now _ (search rules)

pub returns-in-PssSha256-clause-form : goal.returns-in-PssSha256-clause-form
returns-in-PssSha256-clause-form c = form_of c.args.self.now _ (search rules)

pub returns-in-PssOnlySha256-clause-form : goal.returns-in-PssOnlySha256-clause-form
returns-in-PssOnlySha256-clause-form c = form_of c.args.self.now _ (search rules)

pub returns-in-PssOnlySha384-clause-form : goal.returns-in-PssOnlySha384-clause-form
returns-in-PssOnlySha384-clause-form c = form_of c.args.self.now _ (search rules)

pub returns-in-PssOnlySha512-clause-form : goal.returns-in-PssOnlySha512-clause-form
returns-in-PssOnlySha512-clause-form c = form_of c.args.self.now _ (search rules)
